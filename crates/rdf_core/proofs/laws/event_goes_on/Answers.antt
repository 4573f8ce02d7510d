use Rattle.rdf_core.proofs.Does.{event_goes_on}
use Rattle.rdf_core.proofs.laws.event_goes_on.Goals as goal

pub returns : goal.returns
returns c = event_goes_on
