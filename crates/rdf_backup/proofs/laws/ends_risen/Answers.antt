use Rattle.rdf_backup.proofs.BrokenLaws.{ends_risen}
use Rattle.rdf_backup.proofs.laws.ends_risen.Goals as goal

pub returns : goal.returns
returns g c = ends_risen g.D.Disk g.D.Disk.tells g.D.Disk.files g.D.Disk.counts
