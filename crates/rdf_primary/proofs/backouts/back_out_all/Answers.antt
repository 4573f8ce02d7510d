use Rattle.std.proofs.Common.{rules, ◌≡◌, true, List, [], ◌∷◌, ◌++◌, length, drop, Ok, sym, ap, ◌∙◌, subst, arith, append_assoc, append-nil}
use Rattle.std.proofs.lemmas.List.{nil_from_length}
use Rattle.std.specs.FinSet as set
use Rattle.std.specs.List.Sorted.{IsStrictlySortedBy}
use Rattle.std.specs.Ordering.{nat_cmp}
use Rattle.rdf_types.specs.declared.records.Record.{Record}
use Rattle.rdf_model.specs.Lines.{after_abort, after_restart}
use Rattle.rdf_model.specs.Losers.{losers}
use Rattle.rdf_model.specs.Trail.{open_in}
use Rattle.rdf_disk.specs.AnswerLaws.{on_err}
use Rattle.audit_trail.specs.InUse.{trail_of}
use Rattle.tmf_core.specs.Stores.{Left}
use Rattle.tmf_core.specs.CauseLaws.{same_volumes}
use Rattle.tmf_core.specs.States.{tmf_trail}
use Rattle.rdf_primary.proofs.BackoutLaws.{AllIn, next_in, losers_in, losers_many, runs_on, runs_idle, left_before, left_of_all}
use Rattle.rdf_primary.proofs.backouts.back_out_all.Goals as goal

pub returns-in_err-lost-clause-err : goal.returns-in_err-lost-clause-err
returns-in_err-lost-clause-err g c = λ tells.
    let trail = tmf_trail c.args.tmf.now in
    on_err c.from_residual.result (Left g.D.Disk.files trail (drop (length trail) (after_restart trail)) c.args.tmf.now.store)
    (left_before g.D.Disk.files c.args.tmf.now.store (drop (length trail) (after_restart trail)) (c.requires.runs tells).runs.stored)

pub back_out_one-requires-clause-active : goal.back_out_one-requires-clause-active
back_out_one-requires-clause-active g c = λ tells.
    let trail = tmf_trail c.args.tmf.now in
    let value = c.in_ok-lost.ensures.value ∙ ap (λ t. losers (trail_of t)) c.trail.ensures in
    subst (λ s. set.contains s c.in-Some.txn ≡ true) (sym (c.loop-txn.invariant.runs tells).active_is)
    (next_in (open_in trail) c.loop-txn.yielded c.next.new.self.rest.items c.in-Some.txn
    (subst (λ ts. AllIn (open_in trail) ts) (c.loop-txn.invariant.ahead ∙ ap (λ ts. c.loop-txn.yielded ++ ts) c.in-Some.ensures.steps.0) (losers_in trail (subst (λ ts. IsStrictlySortedBy nat_cmp ts) value c.in_ok-lost.ensures.rising))))

pub loop-txn-preserved : goal.loop-txn-preserved
loop-txn-preserved g c =
    let inv = c.loop-txn.invariant in
    record {
      up = c.in_ok-back_out_one.ensures.up;
      many = same_volumes {T = Unit {0}} g.D.Disk.counts (Ok tt) c.loop-txn.tmf.store c.back_out_one.new.tmf.store c.in_ok-back_out_one.ensures.cause ∙ inv.many;
      counts = search rules;
      runs = λ tells. runs_on g.D.Disk.files (tmf_trail c.args.tmf.now) (open_in (tmf_trail c.args.tmf.now)) c.loop-txn.yielded c.in-Some.txn c.loop-txn.tmf c.back_out_one.new.tmf (inv.runs tells) (c.in_ok-back_out_one.ensures.ok tells);
      ahead = inv.ahead ∙ ap (λ ts. c.loop-txn.yielded ++ ts) c.in-Some.ensures.steps.0 ∙ sym (append_assoc c.loop-txn.yielded (c.in-Some.txn ∷ []) c.next.new.self.rest.items);
    }

pub returns-in_err-back_out_one-clause-err : goal.returns-in_err-back_out_one-clause-err
returns-in_err-back_out_one-clause-err g c = λ tells.
    let trail = tmf_trail c.args.tmf.now in
    let inv = c.loop-txn.invariant in
    on_err c.from_residual-in_err-back_out_one.result (Left g.D.Disk.files trail (drop (length trail) (after_restart trail)) c.back_out_one.new.tmf.store)
    (left_of_all g.D.Disk.files c.back_out_one.new.tmf.store trail (losers trail) c.loop-txn.yielded c.next.new.self.rest.items c.in-Some.txn (inv.ahead ∙ ap (λ ts. c.loop-txn.yielded ++ ts) c.in-Some.ensures.steps.0)
    (subst (λ (l : List Record). Left g.D.Disk.files l (drop (length l) (after_abort l c.in-Some.txn)) c.back_out_one.new.tmf.store) (inv.runs tells).trail_is (c.in_err-back_out_one.ensures.err tells)))

pub returns-clause-ok : goal.returns-clause-ok
returns-clause-ok g c = λ tells.
    let inv = c.loop-txn.invariant in
    let none = c.in-None.ensures.steps.0 in
    let e : length c.loop-txn.txn-iterator.rest.items ≡ 0 = omega arith in
    runs_idle g.D.Disk.files (tmf_trail c.args.tmf.now) c.loop-txn.yielded c.loop-txn.tmf
    (inv.ahead ∙ ap (λ ts. c.loop-txn.yielded ++ ts) (nil_from_length c.loop-txn.txn-iterator.rest.items e) ∙ append-nil c.loop-txn.yielded) (inv.runs tells)

pub returns-clause-says : goal.returns-clause-says
returns-clause-says g c =
    let value = c.in_ok-lost.ensures.value ∙ ap (λ t. losers (trail_of t)) c.trail.ensures in
    let many = losers_many (tmf_trail c.args.tmf.now) (subst (λ ts. IsStrictlySortedBy nat_cmp ts) value c.in_ok-lost.ensures.rising) in
    let len = c.len-many.ensures in
    let e : c.len-many.result ≡ length c.in_ok-lost.lost.items = omega arith in
    e ∙ ap (λ ts. length ts) value ∙ many
