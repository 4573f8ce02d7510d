use Rattle.std.proofs.Common.{refl}
use Rattle.volume_sessions.proofs.running.note_of.Goals as goal

pub returns : goal.returns
returns g c = record { vol_is = refl; seen = record { volume = c.of.result; point = c.restart_point.result }; there = refl; is = record { volume_is = c.of.ensures; point_is = c.restart_point.ensures } }
