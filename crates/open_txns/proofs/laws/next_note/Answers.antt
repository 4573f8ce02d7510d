use Rattle.open_txns.proofs.Proper.{next_note}
use Rattle.open_txns.proofs.laws.next_note.Goals as goal

pub returns : goal.returns
returns c = next_note
