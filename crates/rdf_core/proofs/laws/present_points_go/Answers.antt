use Rattle.rdf_core.proofs.Does.{goes_for}
use Rattle.rdf_core.proofs.laws.present_points_go.Goals as goal

pub returns : goal.returns
returns c = goes_for
