use Rattle.updaters.proofs.reads.read_in.Given as goal

abbrev pub ghost-give : goal.ghost-give
ghost-give g a = a.turn.hold.story
