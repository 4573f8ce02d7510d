-- The faults of locking, as they are shown.
use Rattle.std.specs.Prelude.{ℕ, List, ◌++◌, codes, decimal}
use Rattle.record_locks.specs.declared.table.LockFault.{LockFault}
use Rattle.record_locks.specs.declared.table.LockFault.TheVariants.{Held, NoMemory}

-- why a record was not locked
abbrev pub lock_fault_text : LockFault → List ℕ
lock_fault_text (Held by) = codes "locked " ++ decimal by
lock_fault_text NoMemory = codes "no memory"
