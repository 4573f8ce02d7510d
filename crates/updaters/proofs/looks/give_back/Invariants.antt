use Rattle.updaters.proofs.looks.give_back.Given as goal

abbrev pub ghost-give : goal.ghost-give
ghost-give g a = a.turn.hold.story
