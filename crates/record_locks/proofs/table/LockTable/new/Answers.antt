use Rattle.std.specs.FinMap.{empty}
use Rattle.record_locks.proofs.AgreeLemmas.{agree_same, agree_empty}
use Rattle.record_locks.proofs.table.LockTable.new.Goals as goal

pub invariant_of-result : goal.invariant_of-result
invariant_of-result c = agree_same empty c.new.result empty c.new-2.result c.new.ensures c.new-2.ensures agree_empty
