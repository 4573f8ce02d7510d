use Rattle.rdf_model.proofs.OpenParts.{count_of_part}
use Rattle.rdf_model.proofs.laws.count_of_part.Goals as goal

pub returns : goal.returns
returns c = count_of_part
