use Rattle.rdf_model.specs.LoserLaws.{losers_open}
use Rattle.rdf_model.proofs.laws.losers_are_open.Goals as goal

pub returns : goal.returns
returns c = losers_open
