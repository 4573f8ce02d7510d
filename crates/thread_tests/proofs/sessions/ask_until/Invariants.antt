use Rattle.std.proofs.Common.{◌≡◌, false}
use Rattle.thread_tests.specs.Visits.{IsVisited}
use Rattle.thread_tests.proofs.sessions.ask_until.Given as goal

abbrev pub invariant-loop : goal.invariant-loop
invariant-loop g l = (l.watch.lent ≡ false) × (l.watch.key ≡ l.initial.watch.key) × IsVisited l.watch
