use Rattle.std.proofs.Common.{◌≡◌, ℕ, None, Some}
use Rattle.std.specs.Prelude.{slice_get}
use Rattle.by_node.specs.Each.{at}
use Rattle.senders.specs.Sending.{IsSomeSent, IsMessage}
use Rattle.senders.proofs.Messages.{looked_up, message_at, some_at, if_some}
use Rattle.senders.proofs.senders.Senders.message.Goals as goal

pub returns : goal.returns
returns c = record {
  message = λ layout trail machine are.
      looked_up (λ r. r.now) c.posted.result (slice_get (at c.args.self.now.messages c.args.node) c.args.k) (slice_get (at machine c.args.node).sent c.args.k ≡ None)
      (λ bytes. (range : ℕ × ℕ) × (slice_get (at machine c.args.node).sent c.args.k ≡ Some range) × IsMessage layout trail range bytes)
      c.posted.ensures.value
      (message_at layout trail machine c.args.self.now c.args.node c.args.k are);
  sent =
      if_some (λ r. IsSomeSent r.now) c.posted.result
      (looked_up (λ r. r.now) c.posted.result (slice_get (at c.args.self.now.messages c.args.node) c.args.k) (Unit {0}) IsSomeSent c.posted.ensures.value (some_at c.args.self.now.messages c.args.node c.args.k c.posted.ensures.sent));
}
