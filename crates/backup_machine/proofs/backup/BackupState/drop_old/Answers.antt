use Rattle.backup_machine.specs.Kept.{backup_of}
use Rattle.backup_machine.proofs.PurgeLaws.{purged_is}
use Rattle.backup_machine.proofs.backup.BackupState.drop_old.Goals as goal

pub returns-clause-ok : goal.returns-clause-ok
returns-clause-ok c =
    purged_is c.args.layout.now c.args.trail.now (backup_of c.catch_up.new.self) (backup_of c.args.self.now) c.purge_starts.new.starts c.in_ok-floor.floor c.args.most c.catch_up.ensures.same c.in_ok-floor.ensures c.purge_starts.ensures.starts
