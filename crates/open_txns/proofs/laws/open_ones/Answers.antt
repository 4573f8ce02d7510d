use Rattle.open_txns.proofs.Firsts.{open_ones}
use Rattle.open_txns.proofs.laws.open_ones.Goals as goal

pub returns : goal.returns
returns c = open_ones
