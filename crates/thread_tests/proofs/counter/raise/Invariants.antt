use Rattle.thread_tests.specs.Passes.{numbered}
use Rattle.thread_tests.proofs.counter.raise.Given as goal

abbrev pub ghost-give : goal.ghost-give
ghost-give g a = numbered a.turn.hold.story a.turn.value.number
