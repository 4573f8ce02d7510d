use Rattle.image_disks.proofs.Orderly.{standing_is_orderly}
use Rattle.image_disks.proofs.standing_is_orderly.Goals as goal

pub returns : goal.returns
returns c = standing_is_orderly
