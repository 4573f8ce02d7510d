use Rattle.std.proofs.Common.{ap, sym, subst, ◌∙◌}
use Rattle.extractor.specs.Extract.{after_ack as acked}
use Rattle.senders.specs.Sending.{Sending, AreSenders}
use Rattle.senders.proofs.Messages.{acked_with}
use Rattle.senders.proofs.senders.Senders.ack.Goals as goal

pub returns-clause-done : goal.returns-clause-done
returns-clause-done c = λ layout trail machine are.
    acked_with layout trail machine (record { progress = c.self.inside.extractors; messages = c.self.inside.wire }) c.args.node c.args.received c.on_ack.new.self (c.on_ack.ensures ∙ ap (acked c.args.received) c.get_mut.ensures.value)
    (subst (λ (s : Sending). AreSenders layout trail machine s) (sym c.self.view_is) are)
