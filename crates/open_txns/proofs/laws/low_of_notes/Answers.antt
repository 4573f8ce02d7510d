use Rattle.open_txns.proofs.Lows.{low_of_notes}
use Rattle.open_txns.proofs.laws.low_of_notes.Goals as goal

pub returns : goal.returns
returns c = low_of_notes
