use Rattle.benches.proofs.sessions.give_filled.Given as goal

abbrev pub ghost-give : goal.ghost-give
ghost-give g a = record { entries = a.turn.value.items; number = a.turn.value.end; ended = a.turn.value.finished }
