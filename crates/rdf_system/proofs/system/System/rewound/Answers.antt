use Rattle.std.proofs.Common.{refl, sym}
use Rattle.plan_lang.specs.declared.lines.Line.TheVariants as line
use Rattle.rdf_system.specs.Kinds.{bar_of}
use Rattle.rdf_system.proofs.OnSenders.{bars, says_so, sender_refused, sender_did}
use Rattle.rdf_system.proofs.SiteValues.{senders_beside}
use Rattle.rdf_system.proofs.system.System.rewound.Goals as goal

pub returns-in-Some : goal.returns-in-Some
returns-in-Some g c = senders_beside c.args.self.now c.args.self.now.senders tt c.stands.ensures c.nodes_stand.ensures (λ sites holds serves names fits stands.
    sender_refused g.D.Disk.tells g.D.Disk.files g.D.Disk.counts _ serves stands (line.Rewind c.args.node) refl names fits c.in-Some.why (bars (bar_of c.args.self.now.primary) (line.Rewind c.args.node) c.in-Some.why (sym c.in-Some.ensures.own))
    tt (λ t layout s is. sym (c.in-Some.ensures.judged layout s.primary is.primary)))

pub returns : goal.returns
returns g c = senders_beside c.args.self.now c.rewind.new.self tt c.stands.ensures c.nodes_stand.ensures (λ sites holds serves names fits stands.
    sender_did g.D.Disk.tells g.D.Disk.files g.D.Disk.counts _ serves stands (line.Rewind c.args.node) refl names fits c.rewind.result c.rewind.new.self (says_so (bar_of c.args.self.now.primary) (line.Rewind c.args.node) c.rewind.result (sym c.in_default.ensures.own) (_, c.rewind.ensures.told))
    tt (λ t layout s is. (
      sym (c.in_default.ensures.judged layout s.primary is.primary),
      c.rewind.ensures.reply layout s.primary.trail s.senders is.senders,
      c.rewind.ensures.done layout s.primary.trail s.senders is.senders,
    )))
