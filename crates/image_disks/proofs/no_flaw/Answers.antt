use Rattle.image_disks.proofs.NoFlaws.{no_flaw}
use Rattle.image_disks.proofs.no_flaw.Goals as goal

pub returns : goal.returns
returns c = no_flaw
