use Rattle.std.proofs.Common.{◌≡◌, map}
use Rattle.tmf_recovery.proofs.without_outcome.losers.Given as goal

abbrev pub invariant-loop-txn : goal.invariant-loop-txn
invariant-loop-txn g l = l.found.items ≡ map (λ k. k.now) l.yielded
