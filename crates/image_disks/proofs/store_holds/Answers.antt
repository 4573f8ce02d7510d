use Rattle.image_disks.proofs.Stages.{store_holds}
use Rattle.image_disks.proofs.store_holds.Goals as goal

pub returns : goal.returns
returns c = store_holds
