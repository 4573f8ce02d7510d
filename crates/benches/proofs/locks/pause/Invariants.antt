use Rattle.benches.proofs.locks.pause.Given as goal

abbrev pub ghost-give : goal.ghost-give
ghost-give g a = a.turn.hold.story
