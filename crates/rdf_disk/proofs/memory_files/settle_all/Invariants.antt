use Rattle.rdf_disk.proofs.MemoryFilesLaws.{IsSettling}
use Rattle.rdf_disk.proofs.memory_files.settle_all.Given as goal

abbrev pub invariant-loop-file : goal.invariant-loop-file
invariant-loop-file l = IsSettling l.tear l.fn.files l.files l.changed.items

abbrev pub decreases-loop-file : goal.decreases-loop-file
decreases-loop-file l = goal.left-loop-file l
