use Rattle.std.proofs.Common.{refl}
use Rattle.primary_node.proofs.node.PrimaryNode.up.Goals as goal

pub returns-clause-serves : goal.returns-clause-serves
returns-clause-serves g c = (c.requires.runs, refl, (c.args.layout.now, refl))
