use Rattle.rdf_model.specs.LegalLaws.{next_follows}
use Rattle.rdf_model.proofs.laws.next_follows.Goals as goal

pub returns : goal.returns
returns c = next_follows
