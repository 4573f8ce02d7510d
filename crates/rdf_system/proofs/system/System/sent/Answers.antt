use Rattle.std.proofs.Common.{refl, sym, ap, ◌∙◌, Some}
use Rattle.plan_lang.specs.declared.lines.Line.TheVariants as line
use Rattle.rdf_system.specs.Kinds.{bar_of}
use Rattle.rdf_system.proofs.OnSenders.{bars, says_so, sender_refused, sender_did, sender_fails, sent_said, sent_now}
use Rattle.rdf_system.proofs.SiteValues.{senders_beside}
use Rattle.rdf_system.proofs.Suiting.{barred, on_is, off_is, trail_is, unbarred}
use Rattle.rdf_system.proofs.system.System.sent.Goals as goal

pub returns-in-None : goal.returns-in-None
returns-in-None g c = senders_beside c.args.self.now c.args.self.now.senders tt c.stands.ensures c.nodes_stand.ensures (λ sites holds serves names fits stands.
    sender_refused g.D.Disk.tells g.D.Disk.files g.D.Disk.counts _ serves stands (line.Send c.args.node c.args.most) refl names fits c.why_off.result (bars (bar_of c.args.self.now.primary) (line.Send c.args.node c.args.most) c.why_off.result (barred c.args.self.now.primary (λ t. t.now) c.trail.result c.trail.ensures c.in-None.is ∙ ap (λ why. Some why) (sym c.why_off.ensures)))
    tt (λ t layout s is. off_is g.D.Disk.files layout s.primary c.args.self.now.primary (λ t. t.now) c.trail.result c.trail.ensures is.primary c.in-None.is ∙ ap (λ why. Some why) (sym c.why_off.ensures)))

pub returns-in-Ok : goal.returns-in-Ok
returns-in-Ok g c = senders_beside c.args.self.now c.send.new.self tt c.stands.ensures c.nodes_stand.ensures (λ sites holds serves names fits stands.
    sender_did g.D.Disk.tells g.D.Disk.files g.D.Disk.counts _ serves stands (line.Send c.args.node c.args.most) refl names fits c.in-Ok.reply c.send.new.self (says_so (bar_of c.args.self.now.primary) (line.Send c.args.node c.args.most) c.in-Ok.reply (unbarred c.args.self.now.primary (λ t. t.now) c.trail.result c.trail.ensures c.in-Some.trail c.in-Some.is) c.in-Ok.ensures.kind)
    tt (λ t layout s is.
    let same = trail_is g.D.Disk.files layout s.primary c.args.self.now.primary (λ t. t.now) c.trail.result c.trail.ensures is.primary c.in-Some.trail c.in-Some.is in
    let said = sent_said c.args.node c.args.most s.senders c.args.self.now.senders c.send.new.self c.in-Ok.reply c.args.self.now.layout layout is.laid _ s.primary.trail same is.senders in (
      on_is g.D.Disk.files layout s.primary c.args.self.now.primary (λ t. t.now) c.trail.result c.trail.ensures is.primary c.in-Some.trail c.in-Some.is,
      said c.in-Ok.ensures.reply,
      sent_now c.args.node c.args.most s.senders c.args.self.now.senders c.send.new.self c.in-Ok.reply c.args.self.now.layout layout is.laid _ s.primary.trail same is.senders c.in-Ok.ensures.ok,
    )))

pub returns-in-Err : goal.returns-in-Err
returns-in-Err g c = senders_beside c.args.self.now c.send.new.self refl c.stands.ensures c.nodes_stand.ensures (λ sites holds serves names fits stands.
    sender_fails g.D.Disk.tells g.D.Disk.files g.D.Disk.counts _ serves stands (line.Send c.args.node c.args.most) refl names fits (unbarred c.args.self.now.primary (λ t. t.now) c.trail.result c.trail.ensures c.in-Some.trail c.in-Some.is) c.send.new.self c.in-Err.ensures.err)
