use Rattle.rdf_disk.proofs.MemorySpans.{IsLeft}
use Rattle.rdf_disk.proofs.memory_files.lowest.Given as goal

abbrev pub invariant-loop-number : goal.invariant-loop-number
invariant-loop-number l = IsLeft l.files l.number-iterator
