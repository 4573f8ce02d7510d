use Rattle.image_disks.proofs.Pushing.{ship_means}
use Rattle.image_disks.proofs.ship_means.Goals as goal

pub returns : goal.returns
returns c = ship_means
