use Rattle.std.proofs.Common.{length}
use Rattle.volume_sessions.proofs.closing.+close_all.Given as goal

abbrev pub decreases-close_all : goal.decreases-close_all
decreases-close_all g l = length l.seats.items
