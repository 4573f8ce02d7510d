use Rattle.std.proofs.Common.{Bool, if◌then◌else◌, [], Some, None, sym, ap, ◌∙◌, arith}
use Rattle.rdf_types.specs.declared.records.Phase.TheVariants.{Running}
use Rattle.rdf_disk.specs.Counts.{Causes}
use Rattle.rdf_disk.specs.Counts.Ending.{Fine}
use Rattle.backup_node.specs.Nodes.{disks_at}
use Rattle.node_disks.specs.CutLaws.{same_length}
use Rattle.rdf_system.specs.Starting.{ending_of, start_fault}
use Rattle.rdf_system.proofs.PlaceLaws.{is_placed}
use Rattle.rdf_system.proofs.StartLaws.{all_blank, all_on, came_behind, handed_back, formatted, not_formatted}
use Rattle.rdf_system.proofs.ready.site_over.Goals as goal

pub format-requires-clause-on : goal.format-requires-clause-on
format-requires-clause-on g c = all_on g.D.Disk.tells g.D.Disk.files g.D.Disk.counts c.args.own.items c.requires.own.ready

pub format-requires-clause-blank : goal.format-requires-clause-blank
format-requires-clause-blank g c = all_blank g.D.Disk.tells g.D.Disk.files g.D.Disk.counts c.args.own.items c.requires.own.ready

pub together-requires-clause-roomy : goal.together-requires-clause-roomy
together-requires-clause-roomy g c =
    let many = same_length (λ i x y. Causes (ending_of (start_fault c.args.name c.in-Err.shut.fault) c.args.name i) (g.D.Disk.counts x) (g.D.Disk.counts y)) c.args.own.items c.in-Err.shut.disks.items
    (not_formatted g.D.Disk.counts c.args.own.items c.in-Err.shut.disks.items c.args.name c.in-Err.shut.fault c.in-Err.ensures.cause) in
    omega (arith, many, c.requires.own.all, c.requires.own.room.roomy)

pub returns-in-Ok-clause-at : goal.returns-in-Ok-clause-at
returns-in-Ok-clause-at g c = λ tells. c.in-Ok.ensures.at tells [] tt

pub returns-in-Ok-clause-phase : goal.returns-in-Ok-clause-phase
returns-in-Ok-clause-phase g c = c.in-Ok.ensures.phase ∙ sym (ap (λ (b : Bool). if b then Some Running else None) c.requires.placed)

pub returns-in-Ok-clause-came : goal.returns-in-Ok-clause-came
returns-in-Ok-clause-came g c = came_behind c.args.layout.now c.args.name (is_placed c.args.layout.now c.args.name c.requires.placed) g.D.Disk.counts c.args.own.items c.args.spare.items c.requires.own.many (λ of i. Fine) (disks_at c.in-Ok.node)
    (formatted g.D.Disk.counts c.args.own.items (disks_at c.in-Ok.node) c.in-Ok.ensures.cause)

pub returns-in-Err-clause-back : goal.returns-in-Err-clause-back
returns-in-Err-clause-back g c = handed_back c.args.layout.now c.args.name (is_placed c.args.layout.now c.args.name c.requires.placed) g.D.Disk.counts c.args.own.items c.args.spare.items c.requires.own.many c.in-Err.shut.fault c.not_ready.result c.not_ready.ensures c.in-Err.shut.disks.items c.together.result.items c.together.ensures
    (not_formatted g.D.Disk.counts c.args.own.items c.in-Err.shut.disks.items c.args.name c.in-Err.shut.fault c.in-Err.ensures.cause) c.in-Err.ensures.named
