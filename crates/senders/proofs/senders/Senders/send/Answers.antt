use Rattle.std.proofs.Common.{length, ap, arith, sym, subst}
use Rattle.std.specs.Prelude.{option_map}
use Rattle.audit_trail.specs.InUse.{trail_of}
use Rattle.by_node.specs.Each.{at, with_at}
use Rattle.rdf_core.specs.Sender.{after_send}
use Rattle.senders.specs.Sending.{AreSenders}
use Rattle.senders.proofs.Messages.{sent_reply, sent_senders}
use Rattle.senders.proofs.senders.Senders.send.Goals as goal

pub returns-in_ok-k-in-Some-clause-reply : goal.returns-in_ok-k-in-Some-clause-reply
returns-in_ok-k-in-Some-clause-reply g c = λ machine are.
    sent_reply c.args.layout.now (trail_of c.args.trail.now) c.args.most machine c.args.self.now c.args.node c.extractor-moved.result c.built.new.extractor (option_map (λ v. v.items) c.in_ok-bytes.field-0) c.in-Some.bytes.items
    c.in_ok-k-in-Some.k c.next-from.result c.next-to.result c.extractor-moved.ensures (ap (option_map (λ v. v.items)) c.in-Some.is) c.in_ok-bytes.ensures c.in_ok-k-in-Some.ensures.number (omega arith) c.next-from.ensures c.next-to.ensures are

pub returns-in_ok-k-in-Some-clause-ok : goal.returns-in_ok-k-in-Some-clause-ok
returns-in_ok-k-in-Some-clause-ok g c = λ machine are.
    subst (AreSenders c.args.layout.now (trail_of c.args.trail.now) (with_at machine c.args.node (after_send (length (trail_of c.args.trail.now)) c.args.most (at machine c.args.node)))) (sym c.in_ok-k-in-Some.ensures.ok)
    (sent_senders c.args.layout.now (trail_of c.args.trail.now) c.args.most machine c.args.self.now c.args.node c.extractor-moved.result c.built.new.extractor (option_map (λ v. v.items) c.in_ok-bytes.field-0) c.in-Some.bytes.items
    c.extractor-moved.ensures (ap (option_map (λ v. v.items)) c.in-Some.is) c.in_ok-bytes.ensures are)
