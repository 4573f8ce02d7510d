use Rattle.std.proofs.Common.{◌≡◌}
use Rattle.volume_sessions.specs.Watching.{accepted}
use Rattle.volume_sessions.proofs.Noted.{done}
use Rattle.volume_sessions.proofs.asking.accept_all.Given as goal

abbrev pub invariant-loop-at : goal.invariant-loop-at
invariant-loop-at g l = l.places.items ≡ done accepted l.at l.initial.places.items
