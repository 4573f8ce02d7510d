use Rattle.rdf_disk.specs.MemoryFiles.{told_at}
use Rattle.rdf_disk.proofs.MemoryDisksLaws.{cut_settles}
use Rattle.rdf_disk.proofs.memory.MemDiskDisk.cut.Goals as goal

pub returns-clause-files : goal.returns-clause-files
returns-clause-files c = cut_settles c.args.self.now (told_at c.settle.new.self.entries) c.settle.ensures.told
