use Rattle.backup_machine.proofs.MarkLaws.{as_before, once_begun, once_ended}
use Rattle.backup_machine.proofs.backup.BackupState.mark.Goals as goal

pub returns-then-is_taken-clause-marked : goal.returns-then-is_taken-clause-marked
returns-then-is_taken-clause-marked c = as_before c.args.low c.args.self.now

pub returns-then-is_spent-2-clause-marked : goal.returns-then-is_spent-2-clause-marked
returns-then-is_spent-2-clause-marked c = once_begun c.args.low c.args.self.now c.begin_taking-left.new.self c.begin_taking-left.ensures.backup

pub returns-clause-marked : goal.returns-clause-marked
returns-clause-marked c = once_ended c.args.low c.args.self.now c.begin_taking-left.new.self c.begin_taking-left.ensures.backup
