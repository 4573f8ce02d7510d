use Rattle.image_disks.proofs.Orderly.{drop_holds}
use Rattle.image_disks.proofs.drop_holds.Goals as goal

pub returns : goal.returns
returns c = drop_holds
