use Rattle.image_disks.proofs.Holding.{secondary_holds}
use Rattle.image_disks.proofs.secondary_holds.Goals as goal

pub returns : goal.returns
returns c = secondary_holds
