use Rattle.image_disks.proofs.Rolling.{roll_means}
use Rattle.image_disks.proofs.roll_means.Goals as goal

pub returns : goal.returns
returns c = roll_means
