use Rattle.updaters.proofs.Between.{own_changes}
use Rattle.updaters.proofs.laws.step_applies.Goals as goal

pub returns : goal.returns
returns c = own_changes
