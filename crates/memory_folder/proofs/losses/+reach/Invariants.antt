use Rattle.std.proofs.Common.{length}
use Rattle.memory_folder.proofs.losses.+reach.Given as goal

abbrev pub decreases-reach : goal.decreases-reach
decreases-reach l = length l.writes.now
