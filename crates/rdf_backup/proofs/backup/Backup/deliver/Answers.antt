use Rattle.std.proofs.Common.{◌∙◌, refl, sym, max, Some, Result, Ok, IfOk, subst}
use Rattle.std.proofs.lemmas.Result.{err_from_is_err_and}
use Rattle.plan_lang.specs.declared.lines.Line.TheVariants as line
use Rattle.image_disks.specs.Values.{received}
use Rattle.node_faults.specs.declared.NodeFault.{NodeFault}
use Rattle.rdf_codec.specs.declared.ships.Ship.{Ship}
use Rattle.rdf_core.specs.declared.replies.Reply.{Reply}
use Rattle.rdf_core.specs.declared.replies.Reply.TheVariants.{No}
use Rattle.rdf_core.specs.Backup.{deliver_refusal}
use Rattle.rdf_backup.specs.States.{value_of, state_of}
use Rattle.rdf_backup.specs.Refusals.{IsNumber}
use Rattle.rdf_backup.proofs.StillLaws.{breaks_by}
use Rattle.rdf_backup.proofs.Delivering.{kept_out, faulted, unread_breaks}
use Rattle.rdf_backup.proofs.RefusalLaws.{refused_so, let_through, no_refusal, number_is}
use Rattle.rdf_backup.proofs.backup.Backup.deliver.Goals as goal

pub returns-in-Some-clause-ends : goal.returns-in-Some-clause-ends
returns-in-Some-clause-ends g c = λ tells w ship node k sent serves brings.
    kept_out g.D.Disk.files w node k c.args.self.now serves ship brings c.in-Some.why (λ stops. c.delivery_refusal.ensures.judged c.args.self.now refl ship sent stops ∙ c.in-Some.is)

pub returns-in_err-ship-clause-ends : goal.returns-in_err-ship-clause-ends
returns-in_err-ship-clause-ends g c = λ tells w ship node k sent serves brings.
    let p = err_from_is_err_and c.from_residual.result c.from_residual.ensures.1 in
    let old = c.args.self.now in
    let runs = c.delivery_refusal.ensures.runs c.in_default.is in
    faulted g.D.Disk.files w node k old serves c.from_residual.result p.0 _ p.1
    (breaks_by g.D.Disk.files w (line.Deliver node k) old old serves runs refl
    (unread_breaks g.D.Disk.files w node k old serves ship sent.limits.spelled brings runs (c.delivery_refusal.ensures.joins c.in_default.is ship sent)))

pub returns-in-Some-clause-judged : goal.returns-in-Some-clause-judged
returns-in-Some-clause-judged g c = λ ship sent.
    let old = c.args.self.now in
    refused_so (deliver_refusal (state_of 0 old) (Some (ship.from, ship.to))) c.in-Some.why (IsNumber (max (received (value_of old)) ship.to)) (Ok (No c.in-Some.why)) old old
    (c.delivery_refusal.ensures.judged old refl ship sent 0 ∙ c.in-Some.is) refl refl

pub returns-in_err-ship-clause-refused : goal.returns-in_err-ship-clause-refused
returns-in_err-ship-clause-refused g c = λ is. refl

pub returns-in_err-ship-clause-judged : goal.returns-in_err-ship-clause-judged
returns-in_err-ship-clause-judged g c = λ ship sent.
    let old = c.args.self.now in
    let p = err_from_is_err_and c.from_residual.result c.from_residual.ensures.1 in
    let says = IsNumber (max (received (value_of old)) ship.to) in
    let_through (deliver_refusal (state_of 0 old) (Some (ship.from, ship.to))) says c.from_residual.result old old (c.delivery_refusal.ensures.judged old refl ship sent 0 ∙ c.in_default.is)
    (subst (λ (r : Result Reply NodeFault). IfOk r says) (sym p.1) tt)

pub returns-clause-refused : goal.returns-clause-refused
returns-clause-refused g c = λ is.
    let at = received (value_of c.args.self.now) in
    absurd (no_refusal (IsNumber (max at c.in_ok-ship.ship.to)) c.receive.result (number_is (max at c.in_ok-ship.ship.to)) c.receive.ensures.taken is)

pub returns-clause-judged : goal.returns-clause-judged
returns-clause-judged g c = λ ship sent.
    let old = c.args.self.now in
    let at = received (value_of old) in
    let_through (deliver_refusal (state_of 0 old) (Some (ship.from, ship.to))) (IsNumber (max at ship.to)) c.receive.result old c.receive.new.self (c.delivery_refusal.ensures.judged old refl ship sent 0 ∙ c.in_default.is)
    (subst (λ (s : Ship). IfOk c.receive.result (IsNumber (max at s.to))) (c.in_ok-ship.ensures.only ship sent) c.receive.ensures.taken)
