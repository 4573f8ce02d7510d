use Rattle.backup_node.proofs.NodeLaws.{node_longer}
use Rattle.backup_node.proofs.laws.nodes_go_on.Goals as goal

pub returns : goal.returns
returns g c = λ n layout trail more b legal at. node_longer g.D.Disk.files layout trail more b n legal at
