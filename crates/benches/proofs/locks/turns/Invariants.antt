use Rattle.std.proofs.Common.{◌≡◌, ◌+◌, true, All}
use Rattle.benches.proofs.locks.turns.Given as goal

abbrev pub invariant-loop : goal.invariant-loop
invariant-loop g l = (l.pass.lock ≡ l.initial.pass.lock) × (l.pass.writes ≡ true) × (l.pass.story ≡ l.initial.pass.story) × (l.pass.seats + l.counter ≡ l.fn.others + 1) × All (λ w. w.pass.lock ≡ w.lock.now.id) l.pausing.items
