use Rattle.open_txns.proofs.Counts.{count_of_notes}
use Rattle.open_txns.proofs.laws.count_of_notes.Goals as goal

pub returns : goal.returns
returns c = count_of_notes
