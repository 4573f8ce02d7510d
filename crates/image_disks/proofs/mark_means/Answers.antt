use Rattle.image_disks.proofs.Pushing.{mark_means}
use Rattle.image_disks.proofs.mark_means.Goals as goal

pub returns : goal.returns
returns c = mark_means
