-- Why a record was not locked.
use Rattle.std.specs.Prelude.{◌≡◌, ℕ, Option, Some, None, false}
use Rattle.record_locks.specs.declared.table.LockFault.{LockFault}
use Rattle.record_locks.specs.declared.table.LockFault.TheVariants.{Held, NoMemory}
use Rattle.record_locks.specs.Locks.{is_open_to}

-- another transaction is the owner and is named, or nobody is
abbrev pub IsCause : ℕ → Option ℕ → LockFault → Type 0
IsCause txn owner (Held by) = (owner ≡ Some by) × (is_open_to txn owner ≡ false)
IsCause txn owner NoMemory = owner ≡ None
