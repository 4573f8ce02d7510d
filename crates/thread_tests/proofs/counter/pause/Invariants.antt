use Rattle.thread_tests.proofs.counter.pause.Given as goal

abbrev pub ghost-give : goal.ghost-give
ghost-give g a = a.turn.hold.story
