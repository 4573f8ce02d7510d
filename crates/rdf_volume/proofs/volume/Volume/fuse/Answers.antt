use Rattle.rdf_volume.proofs.TableLaws.{tabled_same}
use Rattle.rdf_volume.proofs.volume.Volume.fuse.Goals as goal

pub returns-clause-in_use : goal.returns-clause-in_use
returns-clause-in_use g c = λ tells.
    tabled_same (g.D.Disk.files c.args.self.now.disk) (g.D.Disk.files c.fuse.new.self) c.args.self.now.log.file c.args.self.now.log.end c.args.self.now.table c.args.self.now.restart c.args.self.now.batches
    (c.fuse.ensures.files tells) (c.requires.in_use tells)
