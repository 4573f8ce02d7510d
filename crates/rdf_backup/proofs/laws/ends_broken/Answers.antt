use Rattle.rdf_backup.proofs.BrokenLaws.{ends_broken}
use Rattle.rdf_backup.proofs.laws.ends_broken.Goals as goal

pub returns : goal.returns
returns g c = ends_broken g.D.Disk g.D.Disk.tells g.D.Disk.files g.D.Disk.counts
