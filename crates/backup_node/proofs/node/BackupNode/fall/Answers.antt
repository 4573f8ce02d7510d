use Rattle.std.proofs.Common.{subst}
use Rattle.node_disks.specs.Cuts.{AreCut}
use Rattle.backup_node.proofs.node.BackupNode.fall.Goals as goal

pub returns-clause-cut : goal.returns-clause-cut
returns-clause-cut g c = subst (λ ds. AreCut g.D.Disk.tells g.D.Disk.files g.D.Disk.counts ds c.cut_all.new.disks.items) c.close-disks.ensures c.cut_all.ensures
