use Rattle.image_disks.proofs.Holding.{master_holds}
use Rattle.image_disks.proofs.master_holds.Goals as goal

pub returns : goal.returns
returns c = master_holds
