use Rattle.rdf_volume.specs.Views.{InUse}
use Rattle.benches.proofs.DoneLaws.{done_gives}
use Rattle.benches.proofs.volume.stages.fill.Goals as goal

pub returns : goal.returns
returns g c = λ tells. done_gives (InUse g.D.Disk.files) c.filled.result c.in_ok-volume.volume c.in_ok-volume.ensures (c.filled.ensures tells)
