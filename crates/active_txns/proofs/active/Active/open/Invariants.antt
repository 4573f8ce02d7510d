use Rattle.std.proofs.Common.{◌≡◌, ◌++◌}
use Rattle.std.specs.FinMap as map
use Rattle.active_txns.specs.Founds.{finders}
use Rattle.active_txns.proofs.active.Active.open.Given as goal

abbrev pub invariant-loop-txn : goal.invariant-loop-txn
invariant-loop-txn l = l.txns.items ++ finders l.txn-iterator ≡ finders (map.entries l.self)
