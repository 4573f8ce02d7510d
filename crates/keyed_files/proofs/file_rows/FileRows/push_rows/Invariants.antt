use Rattle.std.proofs.Common.{◌≡◌, ◌++◌}
use Rattle.std.specs.FinMap as map
use Rattle.keyed_files.specs.Listed.{rows_at}
use Rattle.keyed_files.proofs.file_rows.FileRows.push_rows.Given as goal

abbrev pub invariant-loop-key : goal.invariant-loop-key
invariant-loop-key l = l.rows.items ++ rows_at l.file l.key-iterator ≡ l.initial.rows.items ++ rows_at l.file (map.entries l.self)
