use Rattle.updaters.proofs.turns.apply.Given as goal

abbrev pub ghost-give : goal.ghost-give
ghost-give g a = a.turn.hold.story
