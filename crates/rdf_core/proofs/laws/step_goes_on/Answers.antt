use Rattle.rdf_core.proofs.Does.{run_steps}
use Rattle.rdf_core.proofs.laws.step_goes_on.Goals as goal

pub returns : goal.returns
returns c = run_steps
