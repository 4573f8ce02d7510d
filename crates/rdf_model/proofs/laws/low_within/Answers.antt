use Rattle.rdf_model.specs.LowLaws.{low_within}
use Rattle.rdf_model.proofs.laws.low_within.Goals as goal

pub returns : goal.returns
returns c = low_within
