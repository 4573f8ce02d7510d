use Rattle.std.proofs.Common.{arith, ap, ◌∙◌, subst, ◌≡◌, ◌≤◌, Some, length}
use Rattle.std.specs.Map.{values_of}
use Rattle.std.specs.List.{slice_get}
use Rattle.open_txns.specs.Noted.{low_of}
use Rattle.open_txns.specs.Marks.{first_open}
use Rattle.open_txns.proofs.Marked.{low_found, low_none}
use Rattle.open_txns.proofs.OpenTxns.low.Goals as goal

pub returns-then-self-len : goal.returns-then-self-len
returns-then-self-len c =
    c.unwrap_or.ensures ∙ low_found c.self.inside.marks.entries c.index.result.now c.args.end (subst (λ n. slice_get (values_of c.self.inside.marks.entries) n ≡ Some c.index.result.now) c.self.invariant.0 c.index.ensures)
    ∙ ap (λ m. low_of m c.args.end) c.self.view_is

pub returns-else-self-len : goal.returns-else-self-len
returns-else-self-len c =
    let past : length c.self.inside.marks.entries ≤ first_open c.self.inside.marks.entries = omega (arith, c.self.invariant.0, c.len.ensures.len) in
    low_none c.self.inside.marks.entries c.args.end past ∙ ap (λ m. low_of m c.args.end) c.self.view_is
