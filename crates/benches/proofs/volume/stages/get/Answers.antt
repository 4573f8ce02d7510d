use Rattle.benches.proofs.DoneLaws.{done_holds}
use Rattle.benches.proofs.volume.stages.get.Goals as goal

pub returns : goal.returns
returns g c = λ tells. done_holds c.get_spread-done.result c.in_ok-found.found c.in_ok-found.ensures (c.get_spread-done.ensures tells)
