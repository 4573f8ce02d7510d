use Rattle.backup_machine.proofs.MarkLaws.{marked_kept}
use Rattle.backup_machine.proofs.backup.BackupState.mark_received.Goals as goal

pub returns-clause-kept : goal.returns-clause-kept
returns-clause-kept c =
    marked_kept c.args.layout.now c.args.trail.now c.low_now-low.result c.catch_up.new.self c.mark.new.self c.low_now-low.ensures c.in_ok-catch_up.ensures.follows.kept c.mark.ensures.marked
