use Rattle.rdf_disk.proofs.MemoryFilesLaws.{kept_is_seen}
use Rattle.rdf_disk.proofs.memory_files.Files.sync.Goals as goal

pub returns-clause-told : goal.returns-clause-told
returns-clause-told c = kept_is_seen c.args.self.now.entries c.settle.new.self.entries c.settle.ensures.told
