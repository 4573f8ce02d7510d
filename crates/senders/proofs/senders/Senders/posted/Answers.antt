use Rattle.std.proofs.Common.{subst}
use Rattle.senders.specs.Sending.{Sending, AreSomeSent}
use Rattle.senders.proofs.senders.Senders.posted.Goals as goal

pub returns-clause-sent : goal.returns-clause-sent
returns-clause-sent c = subst (λ (s : Sending). AreSomeSent s.messages) c.self.view_is c.self.invariant
