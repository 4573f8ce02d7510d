use Rattle.rdf_core.proofs.Risen.{no_point_falls}
use Rattle.rdf_core.proofs.laws.no_point_falls.Goals as goal

pub returns : goal.returns
returns c = no_point_falls
