use Rattle.std.proofs.Common.{◌≡◌, ◌++◌, take}
use Rattle.fault_tables.specs.Tables.{rows_of}
use Rattle.fault_tables.proofs.add_rows.Given as goal

abbrev pub invariant-loop-stop : goal.invariant-loop-stop
invariant-loop-stop l = l.table.items ≡ l.fn.table.items ++ rows_of l.step (take l.stop-index l.again)
