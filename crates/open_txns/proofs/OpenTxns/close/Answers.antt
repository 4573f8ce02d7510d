use Rattle.std.proofs.Common.{ap, ◌∙◌, sym, subst, ◌==◌}
use Rattle.std.specs.Map.{remove_entry}
use Rattle.open_txns.proofs.Kept.{IsKept, kept-swept, view-swept, count-ended}
use Rattle.open_txns.proofs.OpenTxns.close.Goals as goal

pub invariant_of-self : goal.invariant_of-self
invariant_of-self c = subst (IsKept c.self.inside.head c.self.inside.ended) (sym (c.end_mark.ensures.same c.if-not-end_mark.true)) c.self.invariant

pub invariant_of-self-then-self-held : goal.invariant_of-self-then-self-held
invariant_of-self-then-self-held c = kept-swept c.end_mark.new.marks.entries c.sweep.new.marks.entries c.sweep.ensures

pub invariant_of-self-else-self-held : goal.invariant_of-self-else-self-held
invariant_of-self-else-self-held c = (
  c.first_open_from-self-inside.ensures,
  count-ended c.self.inside.ended c.args.txn c.self.inside.marks.entries c.end_mark.new.marks.entries c.if-not-end_mark.ensures.ended c.end_mark.ensures.marks c.end_mark.ensures.len c.self.invariant.1,
)

pub returns-then-self-held : goal.returns-then-self-held
returns-then-self-held c =
    view-swept c.end_mark.new.marks.entries c.sweep.new.marks.entries _ c.sweep.ensures (c.end_mark.ensures.marks ∙ ap (λ m. remove_entry (λ k. c.args.txn == k) m) c.self.view_is)
