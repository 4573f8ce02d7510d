use Rattle.backup_node.proofs.OpenLaws.{fed_longer}
use Rattle.backup_node.proofs.laws.sessions_go_on.Goals as goal

pub returns : goal.returns
returns g c = λ o n layout trail more b at fed. fed_longer g.D.Disk.files layout trail more b o at fed
