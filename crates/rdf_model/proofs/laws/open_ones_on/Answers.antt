use Rattle.rdf_model.proofs.OpenParts.{contains-open_on}
use Rattle.rdf_model.proofs.laws.open_ones_on.Goals as goal

pub returns : goal.returns
returns c = contains-open_on
