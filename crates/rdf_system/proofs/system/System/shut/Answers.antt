use Rattle.std.proofs.Common.{◌≡◌, ◌+◌, length, sym, ap, ◌∙◌, subst}
use Rattle.rdf_types.specs.declared.records.Node.TheVariants.{A, B, C}
use Rattle.rdf_system.specs.declared.site.Site.{Site}
use Rattle.rdf_system.specs.Place.{HasRoom}
use Rattle.rdf_system.specs.Shelved.{disks_on}
use Rattle.rdf_system.specs.States.{site_disks}
use Rattle.rdf_system.proofs.ShutLaws.{front_fits, front_shut, shut_full, shut_keeps, shut_places, sites_shut}
use Rattle.rdf_system.proofs.system.System.shut.Goals as goal

pub shut_together-requires-clause-many : goal.shut_together-requires-clause-many
shut_together-requires-clause-many g c = ap (λ (x : Site g.row.D.Denot g.D.Disk). length c.close.result.items + length x.spare.items) c.split-a.ensures.0 ∙ front_fits g.D.Disk.tells g.D.Disk.files g.D.Disk.counts c.args.self c.requires.serves c.close.result.items c.close.ensures

pub shut_together-requires-clause-room : goal.shut_together-requires-clause-room
shut_together-requires-clause-room g c = subst (λ (x : Site g.row.D.Denot g.D.Disk). HasRoom 17 x.room) (sym c.split-a.ensures.0) (c.requires.serves.whole.sites A).room

pub shut-requires-clause-many : goal.shut-requires-clause-many
shut-requires-clause-many g c = subst (λ (x : Site g.row.D.Denot g.D.Disk). length (site_disks x) ≡ 17) (sym c.split-a.ensures.1) (c.requires.serves.whole.many B)

pub shut-requires-clause-room : goal.shut-requires-clause-room
shut-requires-clause-room g c = subst (λ (x : Site g.row.D.Denot g.D.Disk). HasRoom 17 x.room) (sym c.split-a.ensures.1) (c.requires.serves.whole.sites B).room

pub shut-requires-2-clause-many : goal.shut-requires-2-clause-many
shut-requires-2-clause-many g c = subst (λ (x : Site g.row.D.Denot g.D.Disk). length (site_disks x) ≡ 17) (sym c.split-a.ensures.2) (c.requires.serves.whole.many C)

pub shut-requires-2-clause-room : goal.shut-requires-2-clause-room
shut-requires-2-clause-room g c = subst (λ (x : Site g.row.D.Denot g.D.Disk). HasRoom 17 x.room) (sym c.split-a.ensures.2) (c.requires.serves.whole.sites C).room

pub returns-clause-places : goal.returns-clause-places
returns-clause-places g c =
    let lists = disks_on (record { a = c.shut_together.result; b = c.shut.result; c = c.shut-2.result; shelf = c.args.self.shelf }) in
    let a = front_shut g.D.Disk.tells g.D.Disk.files g.D.Disk.counts c.args.self c.requires.serves c.split-a.result.0 c.split-a.result.1 c.split-a.result.2 c.split-a.ensures c.close.result.items c.shut_together.result.items c.close.ensures c.shut_together.ensures in
    let b = sites_shut g.D.Disk.tells g.D.Disk.files g.D.Disk.counts c.args.self c.requires.serves c.split-a.result.0 c.split-a.result.1 c.split-a.result.2 c.split-a.ensures (record { a = c.shut_together.result; b = c.shut.result; c = c.shut-2.result; shelf = c.args.self.shelf }) c.shut.ensures c.shut-2.ensures in
    shut_places g.D.Disk.tells g.D.Disk.files g.D.Disk.counts c.args.self c.requires.serves lists a b c.racks_of.result c.racks_of.ensures.places

pub returns-clause-full : goal.returns-clause-full
returns-clause-full g c =
    let lists = disks_on (record { a = c.shut_together.result; b = c.shut.result; c = c.shut-2.result; shelf = c.args.self.shelf }) in
    let a = front_shut g.D.Disk.tells g.D.Disk.files g.D.Disk.counts c.args.self c.requires.serves c.split-a.result.0 c.split-a.result.1 c.split-a.result.2 c.split-a.ensures c.close.result.items c.shut_together.result.items c.close.ensures c.shut_together.ensures in
    let b = sites_shut g.D.Disk.tells g.D.Disk.files g.D.Disk.counts c.args.self c.requires.serves c.split-a.result.0 c.split-a.result.1 c.split-a.result.2 c.split-a.ensures (record { a = c.shut_together.result; b = c.shut.result; c = c.shut-2.result; shelf = c.args.self.shelf }) c.shut.ensures c.shut-2.ensures in
    c.racks_of.ensures.full (shut_full g.D.Disk.tells g.D.Disk.files g.D.Disk.counts c.args.self c.requires.serves lists a b)

pub returns-clause-keeps : goal.returns-clause-keeps
returns-clause-keeps g c =
    let lists = disks_on (record { a = c.shut_together.result; b = c.shut.result; c = c.shut-2.result; shelf = c.args.self.shelf }) in
    let a = front_shut g.D.Disk.tells g.D.Disk.files g.D.Disk.counts c.args.self c.requires.serves c.split-a.result.0 c.split-a.result.1 c.split-a.result.2 c.split-a.ensures c.close.result.items c.shut_together.result.items c.close.ensures c.shut_together.ensures in
    let b = sites_shut g.D.Disk.tells g.D.Disk.files g.D.Disk.counts c.args.self c.requires.serves c.split-a.result.0 c.split-a.result.1 c.split-a.result.2 c.split-a.ensures (record { a = c.shut_together.result; b = c.shut.result; c = c.shut-2.result; shelf = c.args.self.shelf }) c.shut.ensures c.shut-2.ensures in
    λ tells layout s stands. shut_keeps g.D.Disk.tells g.D.Disk.files g.D.Disk.counts c.args.self c.requires.serves layout s c.racks_of.result stands tells lists c.racks_of.ensures.places a b
