use Rattle.open_txns.proofs.Proper.{next_is_proper}
use Rattle.open_txns.proofs.laws.next_is_proper.Goals as goal

pub returns : goal.returns
returns c = next_is_proper
