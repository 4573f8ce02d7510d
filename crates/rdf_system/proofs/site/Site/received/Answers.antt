use Rattle.std.proofs.Common.{Option, is_some, sym, ap, ◌∙◌}
use Rattle.backup_node.specs.declared.node.BackupNode.{BackupNode}
use Rattle.rdf_system.specs.Moves.{phase_in}
use Rattle.rdf_system.proofs.ShownSites.{up_there}
use Rattle.rdf_system.proofs.site.Site.received.Goals as goal

pub returns-clause-up : goal.returns-clause-up
returns-clause-up g c = c.received.ensures.up ∙ sym (up_there c.in-Some.node.backup) ∙ ap (λ (o : Option (BackupNode g.row.D.Denot g.D.Disk)). is_some (phase_in o)) (sym c.in-Some.is)
