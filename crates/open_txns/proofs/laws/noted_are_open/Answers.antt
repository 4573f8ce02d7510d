use Rattle.open_txns.proofs.Firsts.{noted_are_open}
use Rattle.open_txns.proofs.laws.noted_are_open.Goals as goal

pub returns : goal.returns
returns c = noted_are_open
