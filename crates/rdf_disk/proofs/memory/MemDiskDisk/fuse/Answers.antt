use Rattle.rdf_disk.proofs.MemoryFuses.{fuse_stops}
use Rattle.rdf_disk.proofs.memory.MemDiskDisk.fuse.Goals as goal

pub returns-clause-stops : goal.returns-clause-stops
returns-clause-stops c = fuse_stops c.args.calls c.args.tear c.args.self.now.meter c.set_fuse.new.self c.set_fuse.ensures
