use Rattle.std.proofs.Common.{◌≡◌, List, [], ◌∷◌, ◌++◌, true, ap, sym, ◌∙◌, subst, arith, append_assoc}
use Rattle.std.proofs.lemmas.List.{append-nil, nil_from_length}
use Rattle.rdf_disk.specs.AnswerLaws.{on_err}
use Rattle.rdf_types.specs.declared.records.Row.{Row}
use Rattle.keyed_blocks.specs.Bases.{rises}
use Rattle.keyed_blocks.specs.Writing.{IsWriting}
use Rattle.keyed_blocks.specs.WritingLaws.{writing_durably}
use Rattle.rdf_volume.proofs.FillingLaws.{taken_next}
use Rattle.rdf_volume.proofs.next_base.push_all.Goals as goal

pub returns-then-not-takes-clause-err : goal.returns-then-not-takes-clause-err
returns-then-not-takes-clause-err g c = λ tells logs out w.
    writing_durably logs c.loop-row.writer (out ++ c.loop-row.yielded) (g.D.Disk.files c.loop-row.disk) (c.loop-row.invariant.writing tells logs out w)

pub returns-then-not-takes-clause-sound : goal.returns-then-not-takes-clause-sound
returns-then-not-takes-clause-sound g c = λ tells logs out w risen file at is.
    let all = c.loop-row.invariant.all ∙ ap (λ (l : List Row). c.loop-row.yielded ++ l) c.in-Some.ensures.steps.0 in
    let order = subst (λ (l : List Row). rises l ≡ true) (ap (λ (l : List Row). out ++ l) all ∙ sym (append_assoc out c.loop-row.yielded (c.in-Some.row ∷ c.next.new.self.rest.items))) risen in
    let above = taken_next logs c.loop-row.writer (out ++ c.loop-row.yielded) (g.D.Disk.files c.loop-row.disk) c.in-Some.row c.next.new.self.rest.items (c.loop-row.invariant.writing tells logs out w) order in
    let taken = c.takes.ensures in
    cc

pub push-requires-clause-writing : goal.push-requires-clause-writing
push-requires-clause-writing g c = λ tells. let r = c.requires.writing tells in (r.0, r.1 ++ c.loop-row.yielded, c.loop-row.invariant.writing tells r.0 r.1 r.2)

pub loop-row-preserved : goal.loop-row-preserved
loop-row-preserved g c = record {
  writing = λ tells logs out w. subst (λ (l : List Row). IsWriting logs c.push.new.self l (g.D.Disk.files c.push.new.disk)) (append_assoc out c.loop-row.yielded (c.in-Some.row ∷ []))
      (c.in_ok-push.ensures.ok tells logs (out ++ c.loop-row.yielded) (c.loop-row.invariant.writing tells logs out w));
  all = c.loop-row.invariant.all ∙ ap (λ (l : List Row). c.loop-row.yielded ++ l) c.in-Some.ensures.steps.0 ∙ sym (append_assoc c.loop-row.yielded (c.in-Some.row ∷ []) c.next.new.self.rest.items);
  file = c.push.ensures.file ∙ c.loop-row.invariant.file;
  counts = c.in_ok-push.ensures.cause ∙ c.loop-row.invariant.counts;
}

pub returns-in_err-push-clause-err : goal.returns-in_err-push-clause-err
returns-in_err-push-clause-err g c = λ tells. on_err c.from_residual.result _ (λ logs out w.
    c.in_err-push.ensures.err tells logs (out ++ c.loop-row.yielded) (c.loop-row.invariant.writing tells logs out w))

pub returns-clause-ok : goal.returns-clause-ok
returns-clause-ok g c = λ tells logs out w.
    let nil = nil_from_length c.loop-row.row-iterator.rest.items (omega (arith, c.loop-row.row-iterator.rest.ok.0, (c.in-None.ensures {u = tt}).steps.0)) in
    let all = c.loop-row.invariant.all ∙ ap (λ (l : List Row). c.loop-row.yielded ++ l) nil ∙ append-nil c.loop-row.yielded in
    subst (λ (l : List Row). IsWriting logs c.loop-row.writer (out ++ l) (g.D.Disk.files c.loop-row.disk)) (sym all) (c.loop-row.invariant.writing tells logs out w)
