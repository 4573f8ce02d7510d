use Rattle.benches.proofs.DoneLaws.{done_holds}
use Rattle.benches.proofs.volume.stages.scan.Goals as goal

pub returns : goal.returns
returns g c = λ tells. done_holds c.scanned.result c.in_ok-rows.rows c.in_ok-rows.ensures (c.scanned.ensures tells)
