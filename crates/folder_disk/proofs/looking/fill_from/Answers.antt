use Rattle.std.proofs.Common.{rules, arith, false, ◌≡◌, ◌-◌, ◌+◌, ◌∙◌, ℕ, length, drop, length-drop, subst}
use borrow.Rule.Slice.PartMut.{mid_of}
use Rattle.std.proofs.lemmas.List.{length-take}
use Rattle.folder_disk.specs.Names.{Name, IsRead}
use Rattle.folder_disk.proofs.Reading.{reading_step}
use Rattle.std.proofs.lemmas.Result.{err_from_is_err_and}
use Rattle.folder_disk.proofs.Causing.{passed_failed, cause_behind}
use Rattle.folder_disk.proofs.looking.fill_from.Goals as goal

pub returns-in_err-taken-clause-cause : goal.returns-in_err-taken-clause-cause
returns-in_err-taken-clause-cause g c tells good =
    let r = err_from_is_err_and c.from_residual.result c.from_residual.ensures.1 in
    passed_failed _ r.0 _ _ _ r.1 r.2 (cause_behind _ _ _ _ (c.loop-filled.invariant.4 tells good) (c.in_err-taken.ensures.cause tells (c.loop-filled.invariant.3 tells ∙ good)))

pub returns-then-taken-eq0-clause-cause : goal.returns-then-taken-eq0-clause-cause
returns-then-taken-eq0-clause-cause g c tells good = cause_behind false _ _ _ (c.loop-filled.invariant.4 tells good) (c.in_ok-taken.ensures.cause tells (c.loop-filled.invariant.3 tells ∙ good))

pub loop-filled-preserved : goal.loop-filled-preserved
loop-filled-preserved g c = (
  search rules,
  search rules,
  search rules,
  search rules,
  λ tells good. cause_behind false _ _ _ (c.loop-filled.invariant.4 tells good) (c.in_ok-taken.ensures.cause tells (c.loop-filled.invariant.3 tells ∙ good)),
  λ tells good.
      let k : ℕ = length c.loop-filled.into - c.loop-filled.filled in
      let read = c.in_ok-taken.ensures.ok tells (c.loop-filled.invariant.3 tells ∙ good) in
      let same = c.loop-filled.invariant.2 tells c.args.file in
      let long : length c.read_some.new.into ≡ k = omega (arith, c.read_some.auto.into, length-take k (drop c.loop-filled.filled c.loop-filled.into), length-drop c.loop-filled.filled c.loop-filled.into) in
      reading_step _ c.args.at c.args.into.now c.loop-filled.filled c.loop-filled.into c.in_ok-taken.taken c.read_some.new.into (c.loop-filled.invariant.5 tells good) c.loop-filled.invariant.1 long
      (subst (λ (n : Name). IsRead n.file.seen (c.args.at + c.loop-filled.filled) (mid_of c.loop-filled.filled k c.loop-filled.into) c.in_ok-taken.taken c.read_some.new.into) same read),
)
