use Rattle.primary_node.proofs.OffLaws.{node_stands}
use Rattle.primary_node.proofs.node.PrimaryNode.stands.Goals as goal

pub returns : goal.returns
returns g c = λ tells layout a at. node_stands c.args.self.now g.D.Disk.tells g.D.Disk.files g.D.Disk.counts tells c.requires.serves layout a at
