use Rattle.rdf_disk.proofs.MemoryDisksLaws.{removes_as}
use Rattle.rdf_disk.proofs.memory.MemDiskDisk.remove.Goals as goal

pub returns-clause-files : goal.returns-clause-files
returns-clause-files c = (removes_as c.take_away.result c.args.file c.args.self.now c.take_away.new.self c.take_away.ensures).0
