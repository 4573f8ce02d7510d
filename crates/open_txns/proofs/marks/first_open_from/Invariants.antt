use Rattle.std.proofs.Common.{◌≤◌}
use Rattle.open_txns.specs.Marks.{first_open}
use Rattle.open_txns.proofs.marks.first_open_from.Given as goal

abbrev pub invariant-loop-at : goal.invariant-loop-at
invariant-loop-at l = l.at ≤ first_open l.marks.entries
