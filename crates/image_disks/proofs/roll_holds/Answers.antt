use Rattle.image_disks.proofs.Holding.{roll_holds}
use Rattle.image_disks.proofs.roll_holds.Goals as goal

pub returns : goal.returns
returns c = roll_holds
