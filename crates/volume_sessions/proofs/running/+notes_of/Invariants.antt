use Rattle.std.proofs.Common.{length}
use Rattle.volume_sessions.proofs.running.+notes_of.Given as goal

abbrev pub decreases-notes_of : goal.decreases-notes_of
decreases-notes_of g l = length l.volumes.now
