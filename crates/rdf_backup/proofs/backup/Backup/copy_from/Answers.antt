use Rattle.std.proofs.Common.{◌-◌, ◌∙◌, refl, sym, ap, ℕ, Result, Ok, IfOk, subst}
use Rattle.std.proofs.lemmas.Result.{err_from_is_err_and}
use Rattle.image_disks.specs.Values.{received, merged, listed}
use Rattle.rdf_backup.specs.States.{value_of}
use Rattle.rdf_backup.proofs.FetchLaws.{fell, lag_untaken, lead_untaken, purged_goes, unread_breaks, not_behind, is_behind}
use Rattle.rdf_core.specs.declared.replies.NoWhy.TheVariants as no
use Rattle.rdf_core.specs.declared.replies.Reply.TheVariants.{No}
use Rattle.rdf_core.specs.declared.replies.Reply.{Reply}
use Rattle.node_faults.specs.declared.NodeFault.{NodeFault}
use Rattle.rdf_core.specs.Backup.{copy_refusal}
use Rattle.rdf_backup.specs.States.{state_of}
use Rattle.rdf_backup.specs.Refusals.{IsNumber}
use Rattle.rdf_backup.proofs.RefusalLaws.{refused_so, let_through, no_refusal, number_is, copy_barred, lead_barred, copy_purged, copy_free}
use Rattle.rdf_backup.proofs.backup.Backup.copy_from.Goals as goal

pub returns-in-Some-clause-ends : goal.returns-in-Some-clause-ends
returns-in-Some-clause-ends g c = λ tells w node from stops lead_is lead_serves serves.
    lag_untaken g.D.Disk.files w node from c.args.self.now c.args.lead.now stops lead_is serves c.in-Some.why (sym c.untaken.ensures ∙ c.in-Some.is) _ refl refl refl

pub returns-in-Some-untaken-clause-ends : goal.returns-in-Some-untaken-clause-ends
returns-in-Some-untaken-clause-ends g c = λ tells w node from stops lead_is lead_serves serves.
    lead_untaken g.D.Disk.files w node from c.args.self.now c.args.lead.now stops lead_is serves (sym c.in_default.ensures) c.in-Some-untaken.why (sym c.untaken-2.ensures ∙ c.in-Some-untaken.is) _ refl refl refl

pub returns-then-first-kept-clause-ends : goal.returns-then-first-kept-clause-ends
returns-then-first-kept-clause-ends g c = λ tells w node from stops lead_is lead_serves serves.
    purged_goes g.D.Disk.files w node from c.args.self.now c.args.lead.now stops lead_is serves (sym c.in_default.ensures) (sym c.in_default-untaken.ensures) c.received-first.result
    (is_behind c.received-first.result (received (value_of c.args.self.now)) c.kept.result _ c.if-first-kept.true c.received-first.ensures c.kept.ensures) c.received-first.ensures _ refl refl refl

pub returns-in_err-part-clause-ends : goal.returns-in_err-part-clause-ends
returns-in_err-part-clause-ends g c = λ tells w node from stops lead_is lead_serves serves.
    let p = err_from_is_err_and c.from_residual.result c.from_residual.ensures.1 in
    fell g.D.Disk.files w node from c.args.self.now c.args.lead.now stops lead_is serves c.from_residual.result p.0 c.args.self.now p.1
    (unread_breaks g.D.Disk.files w node from c.args.self.now c.args.lead.now stops lead_is serves (sym c.in_default.ensures) (sym c.in_default-untaken.ensures)
    (not_behind c.received-first.result (received (value_of c.args.self.now)) c.kept.result _ c.if-first-kept.false c.received-first.ensures c.kept.ensures) lead_serves c.requires.same)

pub returns-clause-ends : goal.returns-clause-ends
returns-clause-ends g c = λ tells w node from stops lead_is lead_serves serves.
    let v = value_of c.args.lead.now in
    c.fetch.ensures.ends tells w node from stops lead_is lead_serves serves
    (c.as_slice.ensures.value ∙ c.in_ok-part.ensures.part tells (c.requires.lead tells) ∙ ap (λ n. listed (merged v) n (received v - n)) c.received-first.ensures)

pub returns-in-Some-clause-judged : goal.returns-in-Some-clause-judged
returns-in-Some-clause-judged g c =
    let old = c.args.self.now in
    let lead = c.args.lead.now in
    refused_so (copy_refusal (state_of 0 old) (state_of 0 lead)) c.in-Some.why (IsNumber (received (value_of lead) - received (value_of old))) (Ok (No c.in-Some.why)) old old
    (copy_barred old lead 0 0 c.in-Some.why (sym c.untaken.ensures ∙ c.in-Some.is)) refl refl

pub returns-in-Some-untaken-clause-judged : goal.returns-in-Some-untaken-clause-judged
returns-in-Some-untaken-clause-judged g c =
    let old = c.args.self.now in
    let lead = c.args.lead.now in
    refused_so (copy_refusal (state_of 0 old) (state_of 0 lead)) c.in-Some-untaken.why (IsNumber (received (value_of lead) - received (value_of old))) (Ok (No c.in-Some-untaken.why)) old old
    (lead_barred old lead 0 0 c.in-Some-untaken.why (sym c.in_default.ensures) (sym c.untaken-2.ensures ∙ c.in-Some-untaken.is)) refl refl

pub returns-then-first-kept-clause-judged : goal.returns-then-first-kept-clause-judged
returns-then-first-kept-clause-judged g c =
    let old = c.args.self.now in
    let lead = c.args.lead.now in
    let at = received (value_of old) in
    refused_so (copy_refusal (state_of 0 old) (state_of 0 lead)) (no.Purged at) (IsNumber (received (value_of lead) - at)) (Ok (No (no.Purged c.received-first.result))) old old
    (copy_purged old lead 0 0 (sym c.in_default.ensures) (sym c.in_default-untaken.ensures)
    (is_behind c.received-first.result at c.kept.result _ c.if-first-kept.true c.received-first.ensures c.kept.ensures))
    (ap (λ (n : ℕ). let r : Result Reply NodeFault = Ok (No (no.Purged n)) in r) c.received-first.ensures) refl

pub returns-in_err-part-clause-judged : goal.returns-in_err-part-clause-judged
returns-in_err-part-clause-judged g c =
    let old = c.args.self.now in
    let lead = c.args.lead.now in
    let p = err_from_is_err_and c.from_residual.result c.from_residual.ensures.1 in
    let says = IsNumber (received (value_of lead) - received (value_of old)) in
    let_through (copy_refusal (state_of 0 old) (state_of 0 lead)) says c.from_residual.result old old
    (copy_free old lead 0 0 (sym c.in_default.ensures) (sym c.in_default-untaken.ensures)
    (not_behind c.received-first.result (received (value_of old)) c.kept.result _ c.if-first-kept.false c.received-first.ensures c.kept.ensures))
    (subst (λ (r : Result Reply NodeFault). IfOk r says) (sym p.1) tt)

pub returns-clause-refused : goal.returns-clause-refused
returns-clause-refused g c = λ is.
    let n = received (value_of c.args.lead.now) - received (value_of c.args.self.now) in
    absurd (no_refusal (IsNumber n) c.fetch.result (number_is n)
    (c.fetch.ensures.taken_in (not_behind c.received-first.result (received (value_of c.args.self.now)) c.kept.result _ c.if-first-kept.false c.received-first.ensures c.kept.ensures)) is)

pub returns-clause-judged : goal.returns-clause-judged
returns-clause-judged g c =
    let old = c.args.self.now in
    let lead = c.args.lead.now in
    let joins = not_behind c.received-first.result (received (value_of old)) c.kept.result _ c.if-first-kept.false c.received-first.ensures c.kept.ensures in
    let_through (copy_refusal (state_of 0 old) (state_of 0 lead)) (IsNumber (received (value_of lead) - received (value_of old))) c.fetch.result old c.fetch.new.self
    (copy_free old lead 0 0 (sym c.in_default.ensures) (sym c.in_default-untaken.ensures) joins) (c.fetch.ensures.taken_in joins)
