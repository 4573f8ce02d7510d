use Rattle.std.proofs.Common.{◌≡◌, true}
use Rattle.benches.proofs.locks.RaisingWorker.work.Given as goal

abbrev pub invariant-loop : goal.invariant-loop
invariant-loop g l = (l.pass.lock ≡ l.initial.pass.lock) × (l.pass.writes ≡ true) × (l.pass.story.number ≡ l.counter)
