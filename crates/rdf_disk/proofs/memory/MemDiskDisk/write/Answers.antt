use Rattle.rdf_disk.proofs.MemoryDisksLaws.{writes_as}
use Rattle.rdf_disk.proofs.memory.MemDiskDisk.write.Goals as goal

pub returns-clause-files : goal.returns-clause-files
returns-clause-files c = (writes_as c.put.result c.args.file c.args.at c.args.bytes.now c.args.self.now c.put.new.self c.put.ensures c.requires.no_gap).0
