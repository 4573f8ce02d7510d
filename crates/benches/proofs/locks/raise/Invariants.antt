use Rattle.seated_lock.specs.Stories.{untold}
use Rattle.benches.proofs.locks.raise.Given as goal

abbrev pub ghost-give : goal.ghost-give
ghost-give g a = untold a.turn.value.number
