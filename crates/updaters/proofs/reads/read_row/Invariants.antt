use Rattle.updaters.proofs.reads.read_row.Given as goal

abbrev pub ghost-give : goal.ghost-give
ghost-give g a = a.turn.hold.story
