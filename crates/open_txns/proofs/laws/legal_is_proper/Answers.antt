use Rattle.open_txns.proofs.Proper.{legal_is_proper}
use Rattle.open_txns.proofs.laws.legal_is_proper.Goals as goal

pub returns : goal.returns
returns c = legal_is_proper
