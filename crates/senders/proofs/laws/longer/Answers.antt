use Rattle.senders.proofs.Messages.{senders_longer}
use Rattle.senders.proofs.laws.longer.Goals as goal

pub returns : goal.returns
returns c = senders_longer
