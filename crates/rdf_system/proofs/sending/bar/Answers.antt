use Rattle.std.proofs.Common.{sym, ap, ◌∙◌, Some}
use Rattle.rdf_system.proofs.Suiting.{barred, on_is, off_is, unbarred}
use Rattle.rdf_system.proofs.sending.bar.Goals as goal

pub returns-in-Some-clause-own : goal.returns-in-Some-clause-own
returns-in-Some-clause-own g c = sym (unbarred c.args.primary.now (λ t. t.now) c.trail.result c.trail.ensures c.in-Some.field-0 c.in-Some.is)

pub returns-in-Some-clause-judged : goal.returns-in-Some-clause-judged
returns-in-Some-clause-judged g c = λ layout a is. sym (on_is g.D.Disk.files layout a c.args.primary.now (λ t. t.now) c.trail.result c.trail.ensures is c.in-Some.field-0 c.in-Some.is)

pub returns-in-None-clause-own : goal.returns-in-None-clause-own
returns-in-None-clause-own g c = ap (λ why. Some why) c.why_off.ensures ∙ sym (barred c.args.primary.now (λ t. t.now) c.trail.result c.trail.ensures c.in-None.is)

pub returns-in-None-clause-judged : goal.returns-in-None-clause-judged
returns-in-None-clause-judged g c = λ layout a is. ap (λ why. Some why) c.why_off.ensures ∙ sym (off_is g.D.Disk.files layout a c.args.primary.now (λ t. t.now) c.trail.result c.trail.ensures is c.in-None.is)
