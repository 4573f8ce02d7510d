use Rattle.std.proofs.Common.{length}
use Rattle.volume_sessions.proofs.opening.+close_back.Given as goal

abbrev pub decreases-close_back : goal.decreases-close_back
decreases-close_back g l = length l.lists.seats.items
