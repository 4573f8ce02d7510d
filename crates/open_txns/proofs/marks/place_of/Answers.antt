use Rattle.std.proofs.Common.{sym, ap, ◌∙◌, is_some}
use Rattle.open_txns.proofs.Marked.{has-found, placed-open, open_value, absent_found}
use Rattle.open_txns.proofs.marks.place_of.Goals as goal

pub returns-in_err-at : goal.returns-in_err-at
returns-in_err-at c =
    rw c.from_residual.ensures (has-found c.args.txn c.args.marks.now.entries c.get_index_of.ensures.unique ∙ absent_found _ (sym c.get_index_of.ensures.found ∙ ap is_some c.in_err-at.was))

pub returns-then-is_some : goal.returns-then-is_some
returns-then-is_some c =
    placed-open c.args.txn c.args.marks.now.entries c.in_ok-at.at c.index.result.now c.in_ok-at.ensures.index (sym c.index.ensures ∙ c.in_ok-at.ensures.value) c.if-is_some.ensures

pub returns-else-is_some : goal.returns-else-is_some
returns-else-is_some c =
    has-found c.args.txn c.args.marks.now.entries c.get_index_of.ensures.unique ∙ ap open_value (sym c.in_ok-at.ensures.value ∙ c.index.ensures) ∙ sym c.if-is_some.ensures
