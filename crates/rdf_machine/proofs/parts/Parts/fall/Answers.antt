use Rattle.rdf_machine.proofs.Backups.{keep_by}
use Rattle.rdf_machine.proofs.parts.Parts.fall.Goals as goal

pub returns-then-is_backup_node-clause-kept : goal.returns-then-is_backup_node-clause-kept
returns-then-is_backup_node-clause-kept c = keep_by c.args.self.now c.args.node c.fall.new.self c.cut.new.self c.get_mut.result.now c.get_mut.ensures.value c.fall.ensures.kept
