use Rattle.backup_node.proofs.NodeLaws.{node_stands}
use Rattle.backup_node.proofs.node.BackupNode.stands.Goals as goal

pub returns : goal.returns
returns g c = λ tells layout trail b at. node_stands g.D.Disk.files layout trail b c.args.self.now at
