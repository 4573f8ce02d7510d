use Rattle.std.proofs.Common.{length}
use Rattle.volume_sessions.proofs.running.+updaters_of.Given as goal

abbrev pub decreases-updaters_of : goal.decreases-updaters_of
decreases-updaters_of g l = length l.seats.now
