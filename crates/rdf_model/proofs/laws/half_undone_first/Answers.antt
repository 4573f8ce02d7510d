use Rattle.rdf_model.proofs.SmallLaws.{half_undone_first}
use Rattle.rdf_model.proofs.laws.half_undone_first.Goals as goal

pub returns : goal.returns
returns c = half_undone_first
