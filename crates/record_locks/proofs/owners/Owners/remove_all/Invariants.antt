use Rattle.std.proofs.Common.{◌≡◌, drop}
use Rattle.record_locks.specs.Locks.{without}
use Rattle.record_locks.proofs.owners.Owners.remove_all.Given as goal

abbrev pub invariant-loop-key : goal.invariant-loop-key
invariant-loop-key l = without l.self (drop l.key-index l.keys) ≡ without l.initial.self l.keys
