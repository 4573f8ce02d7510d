use Rattle.backup_node.proofs.NodeLaws.{node_longer}
use Rattle.backup_node.proofs.node.BackupNode.longer.Goals as goal

pub returns : goal.returns
returns g c = λ tells layout trail more b legal at. node_longer g.D.Disk.files layout trail more b c.args.self.now legal at
