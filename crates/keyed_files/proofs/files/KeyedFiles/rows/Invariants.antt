use Rattle.std.proofs.Common.{◌≡◌, ◌++◌, map}
use Rattle.keyed_files.specs.Joined.{rows_of}
use Rattle.keyed_files.specs.Listed.{as_row, listed}
use Rattle.keyed_files.proofs.files.KeyedFiles.rows.Given as goal

abbrev pub invariant-loop-file : goal.invariant-loop-file
invariant-loop-file l = l.rows.items ++ map as_row (rows_of l.file-iterator) ≡ listed l.self
