use Rattle.std.proofs.Common.{◌≡◌, ◌+◌, false}
use Rattle.thread_tests.specs.Passes.{IsStill}
use Rattle.thread_tests.proofs.turns.raises.Given as goal

abbrev pub invariant-loop : goal.invariant-loop
invariant-loop g l = IsStill l.initial.pass l.pass × (l.pass.story.number ≡ l.initial.pass.story.number + l.counter) × (l.pass.story.ended ≡ false)
