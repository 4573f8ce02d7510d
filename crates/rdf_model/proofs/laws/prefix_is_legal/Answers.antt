use Rattle.rdf_model.specs.LegalLaws.{prefix_is_legal}
use Rattle.rdf_model.proofs.laws.prefix_is_legal.Goals as goal

pub returns : goal.returns
returns c = prefix_is_legal
