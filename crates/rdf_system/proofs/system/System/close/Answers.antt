use Rattle.std.proofs.Common.{◌≡◌, ◌+◌, [], List, length, sym, ap, ◌∙◌, subst, arith}
use Rattle.std.specs.Prelude.{slice_get}
use Rattle.rdf_types.specs.declared.records.Node.TheVariants.{A, B, C}
use Rattle.rdf_system.specs.declared.site.Site.{Site}
use Rattle.rdf_system.specs.Place.{HasRoom}
use Rattle.rdf_system.specs.States.{site_disks}
use Rattle.rdf_system.proofs.ShutLaws.{alone, closed_keeps, front_back, front_fits}
use Rattle.rdf_system.proofs.system.System.close.Goals as goal

pub together-requires-clause-empty : goal.together-requires-clause-empty
together-requires-clause-empty g c = subst (λ (x : Site g.row.D.Denot g.D.Disk). x.room.items ≡ []) (sym c.split-a.ensures.0) (c.requires.serves.whole.sites A).room.empty

pub together-requires-clause-roomy : goal.together-requires-clause-roomy
together-requires-clause-roomy g c =
    let many = ap (λ (x : Site g.row.D.Denot g.D.Disk). length c.close.result.items + length x.spare.items) c.split-a.ensures.0 ∙ front_fits g.D.Disk.tells g.D.Disk.files g.D.Disk.counts c.args.self c.requires.serves c.close.result.items c.close.ensures in
    let room = (subst (λ (x : Site g.row.D.Denot g.D.Disk). HasRoom 17 x.room) (sym c.split-a.ensures.0) (c.requires.serves.whole.sites A).room).roomy in
    omega (arith, many, room)

pub close-requires-2-clause-many : goal.close-requires-2-clause-many
close-requires-2-clause-many g c = subst (λ (x : Site g.row.D.Denot g.D.Disk). length (site_disks x) ≡ 17) (sym c.split-a.ensures.1) (c.requires.serves.whole.many B)

pub close-requires-2-clause-room : goal.close-requires-2-clause-room
close-requires-2-clause-room g c = subst (λ (x : Site g.row.D.Denot g.D.Disk). HasRoom 17 x.room) (sym c.split-a.ensures.1) (c.requires.serves.whole.sites B).room

pub close-requires-3-clause-many : goal.close-requires-3-clause-many
close-requires-3-clause-many g c = subst (λ (x : Site g.row.D.Denot g.D.Disk). length (site_disks x) ≡ 17) (sym c.split-a.ensures.2) (c.requires.serves.whole.many C)

pub close-requires-3-clause-room : goal.close-requires-3-clause-room
close-requires-3-clause-room g c = subst (λ (x : Site g.row.D.Denot g.D.Disk). HasRoom 17 x.room) (sym c.split-a.ensures.2) (c.requires.serves.whole.sites C).room

pub returns-clause-places : goal.returns-clause-places
returns-clause-places g c = λ node i. ap (λ (l : List g.row.D.Denot). slice_get l i)
    (front_back c.args.self c.split-a.result.0 c.split-a.result.1 c.split-a.result.2 c.split-a.ensures c.racks_of.result (record { a = c.together.result; b = c.close-2.result; c = c.close-3.result; shelf = c.args.self.shelf }) c.racks_of.ensures.places c.close.result.items (alone g.D.Disk.tells g.D.Disk.files g.D.Disk.counts c.args.self c.requires.serves) c.close.ensures c.together.ensures c.close-2.ensures c.close-3.ensures node)

pub returns-clause-full : goal.returns-clause-full
returns-clause-full g c = c.racks_of.ensures.full (λ node. ap (λ (l : List g.row.D.Denot). length l) (sym (c.racks_of.ensures.places node) ∙ front_back c.args.self c.split-a.result.0 c.split-a.result.1 c.split-a.result.2 c.split-a.ensures c.racks_of.result (record { a = c.together.result; b = c.close-2.result; c = c.close-3.result; shelf = c.args.self.shelf }) c.racks_of.ensures.places c.close.result.items (alone g.D.Disk.tells g.D.Disk.files g.D.Disk.counts c.args.self c.requires.serves) c.close.ensures c.together.ensures c.close-2.ensures c.close-3.ensures node) ∙ c.requires.serves.whole.many node)

pub returns-clause-keeps : goal.returns-clause-keeps
returns-clause-keeps g c = λ tells layout s stands. closed_keeps g.D.Disk.tells g.D.Disk.files g.D.Disk.counts c.args.self c.requires.serves layout s c.racks_of.result stands
    (front_back c.args.self c.split-a.result.0 c.split-a.result.1 c.split-a.result.2 c.split-a.ensures c.racks_of.result (record { a = c.together.result; b = c.close-2.result; c = c.close-3.result; shelf = c.args.self.shelf }) c.racks_of.ensures.places c.close.result.items (alone g.D.Disk.tells g.D.Disk.files g.D.Disk.counts c.args.self c.requires.serves) c.close.ensures c.together.ensures c.close-2.ensures c.close-3.ensures)

pub returns-clause-stands : goal.returns-clause-stands
returns-clause-stands g c = λ tells layout s at. closed_keeps g.D.Disk.tells g.D.Disk.files g.D.Disk.counts c.args.self c.requires.serves layout s c.racks_of.result (c.stands.ensures tells layout s at)
    (front_back c.args.self c.split-a.result.0 c.split-a.result.1 c.split-a.result.2 c.split-a.ensures c.racks_of.result (record { a = c.together.result; b = c.close-2.result; c = c.close-3.result; shelf = c.args.self.shelf }) c.racks_of.ensures.places c.close.result.items (alone g.D.Disk.tells g.D.Disk.files g.D.Disk.counts c.args.self c.requires.serves) c.close.ensures c.together.ensures c.close-2.ensures c.close-3.ensures)
