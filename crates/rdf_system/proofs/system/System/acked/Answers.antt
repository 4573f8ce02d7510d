use Rattle.std.proofs.Common.{◌≡◌, inl, inr, false, true, ℕ, Option, is_some, refl, sym, ap, ◌∙◌, subst}
use Rattle.std.specs.Prelude.{MatchOption}
use Rattle.plan_lang.specs.declared.lines.Line.TheVariants as line
use Rattle.rdf_core.specs.declared.replies.Reply.{Reply}
use Rattle.rdf_core.specs.declared.replies.Reply.TheVariants.{No, Number}
use Rattle.rdf_core.specs.declared.replies.NoWhy.TheVariants.{Down}
use Rattle.by_node.specs.Each.{at, at-map_each}
use Rattle.rdf_system.specs.Kinds.{bar_of}
use Rattle.rdf_system.specs.Moves.{phase_in, phase_of}
use Rattle.rdf_system.specs.NodeLines.{with_sites}
use Rattle.rdf_system.specs.Stances.{stances_of}
use Rattle.rdf_system.proofs.Judging.{ack_barred, ack_down as unacked, ack_up}
use Rattle.rdf_system.proofs.OnSenders.{bars, says_so, sender_refused, sender_did, ack_off, ack_down, ack_free, acked_now}
use Rattle.rdf_system.proofs.SiteValues.{senders_beside}
use Rattle.rdf_system.proofs.system.System.acked.Goals as goal

pub returns-in-Some : goal.returns-in-Some
returns-in-Some g c = senders_beside c.args.self.now c.args.self.now.senders tt c.stands.ensures c.nodes_stand.ensures (λ sites holds serves names fits stands.
    sender_refused g.D.Disk.tells g.D.Disk.files g.D.Disk.counts _ serves stands (line.Ack c.args.node) refl names fits c.in-Some.why (bars (bar_of c.args.self.now.primary) (line.Ack c.args.node) c.in-Some.why (sym c.in-Some.ensures.own))
    (ack_barred c.args.self.now.primary (stances_of (with_sites c.args.self.now sites)).phases c.args.self.now.session c.args.node c.in-Some.why (sym c.in-Some.ensures.own)) (λ t layout s is. ack_off layout s c.args.node c.in-Some.why (sym (c.in-Some.ensures.judged layout s.primary is.primary))))

pub returns-in-Some-received : goal.returns-in-Some-received
returns-in-Some-received g c = senders_beside c.args.self.now c.ack.new.self tt c.stands.ensures c.nodes_stand.ensures (λ sites holds serves names fits stands.
    sender_did g.D.Disk.tells g.D.Disk.files g.D.Disk.counts _ serves stands (line.Ack c.args.node) refl names fits c.ack.result c.ack.new.self (says_so (bar_of c.args.self.now.primary) (line.Ack c.args.node) c.ack.result (sym c.in_default.ensures.own) (inr (_, c.ack.ensures.reply)))
    (ack_up c.args.self.now.primary (stances_of (with_sites c.args.self.now sites)).phases c.args.self.now.session c.args.node c.ack.result _ c.ack.ensures.reply (sym c.in_default.ensures.own) (phase_of (with_sites c.args.self.now sites) c.args.node) (sym (at-map_each (λ site. phase_in site.node) sites c.args.node))
    (ap (λ (o : Option ℕ). is_some o) (sym c.in-Some-received.is) ∙ holds.up)) (λ t layout s is.
    let up = subst (λ (o : Option ℕ). MatchOption o ((at s.backups c.args.node).up ≡ false) (λ n. ((at s.backups c.args.node).up ≡ true) × (n ≡ (at s.backups c.args.node).received))) c.in-Some-received.is (holds.so_far t layout s is) in (
      ack_free layout s c.args.node (sym (c.in_default.ensures.judged layout s.primary is.primary)) up.0,
      c.ack.ensures.reply ∙ ap (λ (n : ℕ). let r : Reply = Number n in r) up.1,
      acked_now layout s.primary.trail c.args.node s.senders c.ack.new.self _ _ up.1 (c.ack.ensures.done layout s.primary.trail s.senders is.senders),
    )))

pub returns-in-None : goal.returns-in-None
returns-in-None g c = senders_beside c.args.self.now c.args.self.now.senders tt c.stands.ensures c.nodes_stand.ensures (λ sites holds serves names fits stands.
    sender_refused g.D.Disk.tells g.D.Disk.files g.D.Disk.counts _ serves stands (line.Ack c.args.node) refl names fits Down (says_so (bar_of c.args.self.now.primary) (line.Ack c.args.node) (No Down) (sym c.in_default.ensures.own) (inl refl))
    (unacked c.args.self.now.primary (stances_of (with_sites c.args.self.now sites)).phases c.args.self.now.session c.args.node (sym c.in_default.ensures.own) (phase_of (with_sites c.args.self.now sites) c.args.node) (sym (at-map_each (λ site. phase_in site.node) sites c.args.node))
    (ap (λ (o : Option ℕ). is_some o) (sym c.in-None.is) ∙ holds.up)) (λ t layout s is. ack_down layout s c.args.node (sym (c.in_default.ensures.judged layout s.primary is.primary))
    (subst (λ (o : Option ℕ). MatchOption o ((at s.backups c.args.node).up ≡ false) (λ n. ((at s.backups c.args.node).up ≡ true) × (n ≡ (at s.backups c.args.node).received))) c.in-None.is (holds.so_far t layout s is))))
