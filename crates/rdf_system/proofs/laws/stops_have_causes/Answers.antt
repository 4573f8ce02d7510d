use Rattle.rdf_system.proofs.StopLaws.{stop_caused}
use Rattle.rdf_system.proofs.laws.stops_have_causes.Goals as goal

pub returns : goal.returns
returns g c = λ l node old new kinds cause. stop_caused l node old new g.D.Disk.counts kinds cause
