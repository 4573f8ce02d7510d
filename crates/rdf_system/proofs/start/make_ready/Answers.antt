use Rattle.std.proofs.Common.{◌≡◌, List, [], length, refl, sym, ◌∙◌, subst}
use Rattle.rdf_types.specs.declared.records.Node.TheVariants.{A, B, C}
use Rattle.rdf_disk.specs.Counts.Ending.{Fine}
use Rattle.node_disks.specs.Cuts.{Each}
use Rattle.node_disks.specs.CutLaws.{same_length}
use Rattle.rdf_system.specs.Shelved.{disks_on, front_disks}
use Rattle.rdf_system.specs.States.{site_disks}
use Rattle.rdf_system.specs.Starting.{Came}
use Rattle.rdf_system.proofs.MadeReady.{is_started, of_each}
use Rattle.rdf_system.proofs.BackLaws.{back_first, back_second, back_third, told}
use Rattle.rdf_system.proofs.start.make_ready.Goals as goal

pub front_ready-requires-clause-many : goal.front_ready-requires-clause-many
front_ready-requires-clause-many g c = c.requires.many A

pub front_ready-requires-clause-ready : goal.front_ready-requires-clause-ready
front_ready-requires-clause-ready g c = c.requires.ready A

pub site_ready-requires-clause-many : goal.site_ready-requires-clause-many
site_ready-requires-clause-many g c = c.requires.many B

pub site_ready-requires-clause-ready : goal.site_ready-requires-clause-ready
site_ready-requires-clause-ready g c = c.requires.ready B

pub site_ready-requires-2-clause-many : goal.site_ready-requires-2-clause-many
site_ready-requires-2-clause-many g c = c.requires.many C

pub site_ready-requires-2-clause-ready : goal.site_ready-requires-2-clause-ready
site_ready-requires-2-clause-ready g c = c.requires.ready C

pub close-a-requires-clause-many : goal.close-a-requires-clause-many
close-a-requires-clause-many g c = same_length (Came g.D.Disk.counts c.args.layout.now (λ of i. Fine) A) c.args.shelves.a.items (front_disks c.in-Ok.front) c.in-Ok.ensures.came ∙ c.requires.many A

pub close-a-requires-in-Err-site_ready-2-clause-many : goal.close-a-requires-in-Err-site_ready-2-clause-many
close-a-requires-in-Err-site_ready-2-clause-many g c = same_length (Came g.D.Disk.counts c.args.layout.now (λ of i. Fine) A) c.args.shelves.a.items (front_disks c.in-Ok.front) c.in-Ok.ensures.came ∙ c.requires.many A

pub close-b-requires-clause-many : goal.close-b-requires-clause-many
close-b-requires-clause-many g c = same_length (Came g.D.Disk.counts c.args.layout.now (λ of i. Fine) B) c.args.shelves.b.items (site_disks c.in-Ok-site_ready.site) c.in-Ok-site_ready.ensures.came ∙ c.requires.many B

pub returns-in-Err-clause-back : goal.returns-in-Err-clause-back
returns-in-Err-clause-back g c =
    let new = disks_on (record { a = c.in-Err.no.disks; b = c.args.shelves.b; c = c.args.shelves.c; shelf = c.args.shelves.shelf }) in
    let back = c.in-Err.ensures.back in
    told g.D.Disk.counts c.args.layout.now (disks_on c.args.shelves) new c.in-Err.no.fault (back_first g.D.Disk.counts c.args.layout.now (disks_on c.args.shelves) new c.in-Err.no.fault back refl refl) back.named back.no_file c.requires.many
    c.not_started.result.fault c.not_started.ensures.fault c.not_started.result.racks c.not_started.ensures.places c.not_started.ensures.full

pub returns-in-Err-site_ready-clause-back : goal.returns-in-Err-site_ready-clause-back
returns-in-Err-site_ready-clause-back g c =
    let new = disks_on (record { a = c.close-a.result; b = c.in-Err-site_ready.no.disks; c = c.args.shelves.c; shelf = c.args.shelves.shelf }) in
    let a = subst (λ l. Each (Came g.D.Disk.counts c.args.layout.now (λ of i. Fine) A) c.args.shelves.a.items l) (sym c.close-a.ensures) c.in-Ok.ensures.came in
    let back = c.in-Err-site_ready.ensures.back in
    told g.D.Disk.counts c.args.layout.now (disks_on c.args.shelves) new c.in-Err-site_ready.no.fault (back_second g.D.Disk.counts c.args.layout.now (disks_on c.args.shelves) new c.in-Err-site_ready.no.fault a back refl) back.named back.no_file c.requires.many
    c.not_started-in-Err-site_ready.result.fault c.not_started-in-Err-site_ready.ensures.fault c.not_started-in-Err-site_ready.result.racks c.not_started-in-Err-site_ready.ensures.places c.not_started-in-Err-site_ready.ensures.full

pub returns-in-Err-site_ready-2-clause-back : goal.returns-in-Err-site_ready-2-clause-back
returns-in-Err-site_ready-2-clause-back g c =
    let new = disks_on (record { a = c.close-a-in-Err-site_ready-2.result; b = c.close-b.result; c = c.in-Err-site_ready-2.no.disks; shelf = c.args.shelves.shelf }) in
    let a = subst (λ l. Each (Came g.D.Disk.counts c.args.layout.now (λ of i. Fine) A) c.args.shelves.a.items l) (sym c.close-a-in-Err-site_ready-2.ensures) c.in-Ok.ensures.came in
    let b = subst (λ l. Each (Came g.D.Disk.counts c.args.layout.now (λ of i. Fine) B) c.args.shelves.b.items l) (sym c.close-b.ensures) c.in-Ok-site_ready.ensures.came in
    let back = c.in-Err-site_ready-2.ensures.back in
    told g.D.Disk.counts c.args.layout.now (disks_on c.args.shelves) new c.in-Err-site_ready-2.no.fault (back_third g.D.Disk.counts c.args.layout.now (disks_on c.args.shelves) new c.in-Err-site_ready-2.no.fault a b back) back.named back.no_file c.requires.many
    c.not_started-in-Err-site_ready-2.result.fault c.not_started-in-Err-site_ready-2.ensures.fault c.not_started-in-Err-site_ready-2.result.racks c.not_started-in-Err-site_ready-2.ensures.places c.not_started-in-Err-site_ready-2.ensures.full

pub returns-in-Ok-site_ready-2-clause-started : goal.returns-in-Ok-site_ready-2-clause-started
returns-in-Ok-site_ready-2-clause-started g c =
    let front = c.in-Ok.front in
    let b = c.in-Ok-site_ready.site in
    let third = c.in-Ok-site_ready-2.c in
    is_started front b third c.new-in-Ok-site_ready-2.result c.args.shelves.shelf c.args.kept.layout c.args.layout.now c.requires.kept.laid c.in-Ok.ensures.whole c.in-Ok-site_ready.ensures.whole c.in-Ok-site_ready-2.ensures.whole
    c.in-Ok.ensures.at c.in-Ok-site_ready.ensures.at c.in-Ok-site_ready-2.ensures.at c.in-Ok.ensures.serves c.in-Ok-site_ready.ensures.serves c.in-Ok-site_ready-2.ensures.serves c.in-Ok.ensures.standing c.in-Ok-site_ready.ensures.phase c.in-Ok-site_ready-2.ensures.phase c.requires.shelf (c.new-in-Ok-site_ready-2.ensures c.args.layout.now [])
    c.new.result c.new.ensures (of_each front b third c.new-in-Ok-site_ready-2.result c.args.shelves.shelf c.args.kept.layout (λ node (l : List g.row.D.Denot). length l ≡ 17)
    (same_length (Came g.D.Disk.counts c.args.layout.now (λ of i. Fine) A) c.args.shelves.a.items (front_disks front) c.in-Ok.ensures.came ∙ c.requires.many A)
    (same_length (Came g.D.Disk.counts c.args.layout.now (λ of i. Fine) B) c.args.shelves.b.items (site_disks b) c.in-Ok-site_ready.ensures.came ∙ c.requires.many B)
    (same_length (Came g.D.Disk.counts c.args.layout.now (λ of i. Fine) C) c.args.shelves.c.items (site_disks third) c.in-Ok-site_ready-2.ensures.came ∙ c.requires.many C)
    c.new.result c.new.ensures)

pub returns-in-Ok-site_ready-2-clause-came : goal.returns-in-Ok-site_ready-2-clause-came
returns-in-Ok-site_ready-2-clause-came g c = of_each c.in-Ok.front c.in-Ok-site_ready.site c.in-Ok-site_ready-2.c c.new-in-Ok-site_ready-2.result c.args.shelves.shelf c.args.kept.layout
    (λ node (l : List g.row.D.Denot). Each (Came g.D.Disk.counts c.args.layout.now (λ of i. Fine) node) (disks_on c.args.shelves node) l) c.in-Ok.ensures.came c.in-Ok-site_ready.ensures.came c.in-Ok-site_ready-2.ensures.came c.new.result c.new.ensures
