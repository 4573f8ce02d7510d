use Rattle.backup_node.proofs.NodeLaws.{node_stands}
use Rattle.backup_node.proofs.laws.nodes_stand.Goals as goal

pub returns : goal.returns
returns g c = λ n layout trail b at. node_stands g.D.Disk.files layout trail b n at
