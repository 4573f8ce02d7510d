use Rattle.backup_machine.specs.Kept.{backup_of}
use Rattle.backup_machine.proofs.LineLaws.{cut_off, delivered, fused, restarted}
use Rattle.backup_machine.proofs.backup.BackupState.line.Goals as goal

pub returns-in-Deliver-clause-ok : goal.returns-in-Deliver-clause-ok
returns-in-Deliver-clause-ok c =
    delivered c.args.layout.now c.args.trail.now c.args.outside c.args.self.now (backup_of c.deliver.new.self) c.args.line.now c.deliver.result c.in-Deliver.node c.in-Deliver.k c.in-Deliver.is c.deliver.ensures.ok

pub returns-in-Fuse-clause-ok : goal.returns-in-Fuse-clause-ok
returns-in-Fuse-clause-ok c =
    fused c.args.layout.now c.args.trail.now c.args.outside c.args.self.now (backup_of c.args.self.now) c.args.line.now c.fuse.result c.in-Fuse.node c.in-Fuse.disk c.in-Fuse.calls c.in-Fuse.tear c.in-Fuse.is c.fuse.ensures

pub returns-in-Cut-clause-ok : goal.returns-in-Cut-clause-ok
returns-in-Cut-clause-ok c = cut_off c.args.layout.now c.args.trail.now c.args.outside c.args.self.now (backup_of c.cut.new.self) c.args.line.now c.cut.result c.in-Cut.node c.in-Cut.is c.cut.ensures.done

pub returns-in-Restart-clause-ok : goal.returns-in-Restart-clause-ok
returns-in-Restart-clause-ok c =
    restarted c.args.layout.now c.args.trail.now c.args.outside c.args.self.now (backup_of c.restart.new.self) c.args.line.now c.restart.result c.in-Restart.node c.in-Restart.is c.restart.ensures.done
