use Rattle.rdf_model.proofs.Owners.{one_holder}
use Rattle.rdf_model.proofs.laws.one_holder.Goals as goal

pub returns : goal.returns
returns c = one_holder
