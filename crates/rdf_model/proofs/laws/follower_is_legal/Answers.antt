use Rattle.rdf_model.proofs.SmallLaws.{follower_is_legal}
use Rattle.rdf_model.proofs.laws.follower_is_legal.Goals as goal

pub returns : goal.returns
returns c = follower_is_legal
