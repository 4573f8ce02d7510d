use Rattle.std.proofs.Common.{◌≤◌, ◌∙◌, max, Some, Ok, Err, refl, sym, subst}
use Rattle.image_disks.specs.Values.{received}
use Rattle.image_trails.specs.Trails.{trails_value, trails_disk}
use Rattle.plan_lang.specs.declared.lines.Line.TheVariants as line
use Rattle.rdf_core.specs.declared.replies.Reply.TheVariants.{No}
use Rattle.rdf_core.specs.Backup.{deliver_refusal}
use Rattle.rdf_backup.specs.States.{layout_of, value_of, state_of}
use Rattle.rdf_backup.specs.Refusals.{IsNumber}
use Rattle.rdf_backup.specs.Replies.{Brings, BreaksTrails}
use Rattle.rdf_backup.specs.Sessions.{open_of, shown_in}
use Rattle.rdf_backup.proofs.Delivering.{kept_out, unread_breaks}
use Rattle.rdf_backup.proofs.RefusalLaws.{refused_so, let_through}
use Rattle.rdf_backup.proofs.session.Session.deliver.Goals as goal

pub returns-in-Some-clause-ends : goal.returns-in-Some-clause-ends
returns-in-Some-clause-ends g c = λ tells none w ship node k sent serves brings.
    let old = shown_in c.args.self.now in
    (kept_out g.D.Disk.files w node k old serves ship brings c.in-Some.why (λ stops. c.delivery_refusal.ensures.judged old (sym (c.requires.goes.trails_are none)) ship sent stops ∙ c.in-Some.is), λ fed. fed)

pub returns-in-Some-clause-judged : goal.returns-in-Some-clause-judged
returns-in-Some-clause-judged g c = λ none ship sent.
    let old = shown_in c.args.self.now in
    refused_so (deliver_refusal (state_of 0 old) (Some (ship.from, ship.to))) c.in-Some.why (IsNumber (max (received (value_of old)) ship.to)) (Ok (No c.in-Some.why)) (open_of c.args.self.now) _
    (c.delivery_refusal.ensures.judged old (sym (c.requires.goes.trails_are none)) ship sent 0 ∙ c.in-Some.is) refl refl

pub returns-in-Ok-clause-ends : goal.returns-in-Ok-clause-ends
returns-in-Ok-clause-ends g c = λ tells none w ship node k sent serves brings.
    c.receive.ensures.ends tells w node k serves (subst (λ x. Brings (layout_of (shown_in c.args.self.now)) w x) (sym ((c.in-Ok.ensures {u = tt}).only ship sent)) brings)

pub returns-in-Err-clause-ends : goal.returns-in-Err-clause-ends
returns-in-Err-clause-ends g c = λ tells none w ship node k sent serves brings.
    let s = c.args.self.now in
    subst (λ t. BreaksTrails g.D.Disk.files w (line.Deliver node k) (shown_in s) (trails_disk t)) (sym (c.requires.goes.trails_are none))
    (unread_breaks g.D.Disk.files w node k (shown_in s) serves ship sent.limits.spelled brings (c.requires.goes.going.running tells)
    (subst (λ t. ship.from ≤ received (trails_value t)) (c.requires.goes.trails_are none) (c.delivery_refusal.ensures.joins c.in_default.is ship sent)))

pub returns-in-Err-clause-judged : goal.returns-in-Err-clause-judged
returns-in-Err-clause-judged g c = λ none ship sent.
    let old = shown_in c.args.self.now in
    let_through (deliver_refusal (state_of 0 old) (Some (ship.from, ship.to))) (IsNumber (max (received (value_of old)) ship.to)) (Err c.in-Err.fault) (open_of c.args.self.now) _
    (c.delivery_refusal.ensures.judged old (sym (c.requires.goes.trails_are none)) ship sent 0 ∙ c.in_default.is) tt
