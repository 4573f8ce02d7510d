use Rattle.std.proofs.Common.{sym, subst}
use Rattle.senders.specs.Sending.{AreSomeSent}
use Rattle.senders.proofs.Messages.{some_more}
use Rattle.senders.proofs.senders.Senders.post.Goals as goal

pub invariant_of-self : goal.invariant_of-self
invariant_of-self c = subst AreSomeSent (sym c.in_err-k.ensures.err) c.self.invariant

pub invariant_of-self-2 : goal.invariant_of-self-2
invariant_of-self-2 c = subst AreSomeSent (sym c.in_ok-k.ensures.ok) (some_more c.self.inside.wire c.args.node c.args.bytes.items c.self.invariant c.requires)
