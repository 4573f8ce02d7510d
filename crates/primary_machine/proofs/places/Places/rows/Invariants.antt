use Rattle.std.proofs.Common.{◌≡◌, ◌++◌}
use Rattle.std.specs.FinMap as map
use Rattle.primary_machine.specs.Kept.{rows_in}
use Rattle.primary_machine.proofs.places.Places.rows.Given as goal

abbrev pub invariant-loop-key : goal.invariant-loop-key
invariant-loop-key l = l.rows.items ++ rows_in l.vol l.key-iterator ≡ rows_in l.vol (map.entries l.self)
