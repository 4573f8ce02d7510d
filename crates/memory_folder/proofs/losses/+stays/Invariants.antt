use Rattle.std.proofs.Common.{length}
use Rattle.memory_folder.proofs.losses.+stays.Given as goal

abbrev pub decreases-stays : goal.decreases-stays
decreases-stays l = length l.writes.now
