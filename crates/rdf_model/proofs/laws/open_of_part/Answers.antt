use Rattle.rdf_model.proofs.OpenParts.{open_of_part}
use Rattle.rdf_model.proofs.laws.open_of_part.Goals as goal

pub returns : goal.returns
returns c = open_of_part
