use Rattle.volume_sessions.specs.Shown.{shown}
use Rattle.volume_sessions.proofs.watch.give_shown.Given as goal

abbrev pub ghost-give : goal.ghost-give
ghost-give g a = shown a.turn.value
