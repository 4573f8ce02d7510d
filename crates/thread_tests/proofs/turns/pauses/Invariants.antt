use Rattle.thread_tests.specs.Passes.{IsStill}
use Rattle.thread_tests.proofs.turns.pauses.Given as goal

abbrev pub invariant-loop : goal.invariant-loop
invariant-loop g l = IsStill l.initial.pass l.pass
