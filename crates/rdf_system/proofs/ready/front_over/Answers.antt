use Rattle.std.proofs.Common.{refl, arith}
use Rattle.rdf_types.specs.declared.records.Node.TheVariants.{A}
use Rattle.rdf_disk.specs.Counts.{Causes}
use Rattle.rdf_disk.specs.Counts.Ending.{Fine}
use Rattle.primary_node.specs.Nodes.{disks_at}
use Rattle.node_disks.specs.CutLaws.{same_length}
use Rattle.rdf_system.specs.Starting.{ending_of, start_fault}
use Rattle.rdf_system.proofs.StartLaws.{all_blank, all_on, came_behind, handed_back, formatted, not_formatted}
use Rattle.rdf_system.proofs.ready.front_over.Goals as goal

pub format-requires-clause-on : goal.format-requires-clause-on
format-requires-clause-on g c = all_on g.D.Disk.tells g.D.Disk.files g.D.Disk.counts c.args.own.items c.requires.ready

pub format-requires-clause-blank : goal.format-requires-clause-blank
format-requires-clause-blank g c = all_blank g.D.Disk.tells g.D.Disk.files g.D.Disk.counts c.args.own.items c.requires.ready

pub together-requires-clause-roomy : goal.together-requires-clause-roomy
together-requires-clause-roomy g c =
    let many = same_length (λ i x y. Causes (ending_of (start_fault A c.in-Err.shut.fault) A i) (g.D.Disk.counts x) (g.D.Disk.counts y)) c.args.own.items c.in-Err.shut.disks.items
    (not_formatted g.D.Disk.counts c.args.own.items c.in-Err.shut.disks.items A c.in-Err.shut.fault c.in-Err.ensures.cause) in
    omega (arith, many, c.requires.all, c.requires.room.roomy)

pub returns-in-Ok-clause-came : goal.returns-in-Ok-clause-came
returns-in-Ok-clause-came g c = came_behind c.args.layout.now A refl g.D.Disk.counts c.args.own.items c.args.spare.items c.requires.many (λ of i. Fine) (disks_at c.in-Ok.node)
    (formatted g.D.Disk.counts c.args.own.items (disks_at c.in-Ok.node) c.in-Ok.ensures.cause)

pub returns-in-Err-clause-back : goal.returns-in-Err-clause-back
returns-in-Err-clause-back g c = handed_back c.args.layout.now A refl g.D.Disk.counts c.args.own.items c.args.spare.items c.requires.many c.in-Err.shut.fault c.not_ready.result c.not_ready.ensures c.in-Err.shut.disks.items c.together.result.items c.together.ensures
    (not_formatted g.D.Disk.counts c.args.own.items c.in-Err.shut.disks.items A c.in-Err.shut.fault c.in-Err.ensures.cause) c.in-Err.ensures.named
