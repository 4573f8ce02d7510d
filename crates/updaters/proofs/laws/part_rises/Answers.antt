use Rattle.updaters.proofs.Between.{part_rise}
use Rattle.updaters.proofs.laws.part_rises.Goals as goal

pub returns : goal.returns
returns c = part_rise
