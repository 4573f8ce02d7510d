use Rattle.updaters.specs.Seats.{told_of}
use Rattle.updaters.proofs.turns.advance.Given as goal

abbrev pub ghost-give : goal.ghost-give
ghost-give g a = told_of a.self.now.first a.turn.value
