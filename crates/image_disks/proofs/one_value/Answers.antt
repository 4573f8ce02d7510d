use Rattle.image_disks.proofs.OneValue.{one_value}
use Rattle.image_disks.proofs.one_value.Goals as goal

pub returns : goal.returns
returns c = one_value
