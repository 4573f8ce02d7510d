use Rattle.rdf_model.proofs.SmallLaws.{half_undone_next}
use Rattle.rdf_model.proofs.laws.half_undone_next.Goals as goal

pub returns : goal.returns
returns c = half_undone_next
