use Rattle.std.proofs.Common.{◌≡◌}
use Rattle.benches.proofs.locks.PausingWorker.work.Given as goal

abbrev pub invariant-loop : goal.invariant-loop
invariant-loop g l = l.pass.lock ≡ l.initial.pass.lock
