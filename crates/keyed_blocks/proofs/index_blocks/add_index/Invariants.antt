use Rattle.std.proofs.Common.{◌≡◌, ◌++◌, List, ℕ, length}
use Rattle.rdf_gatelog.specs.Adding.{RestsAdding}
use Rattle.rdf_gatelog.specs.Logs.{Logs}
use Rattle.keyed_blocks.proofs.AddedLaws.{AreListed}
use Rattle.keyed_blocks.proofs.index_blocks.add_index.Given as goal

abbrev pub invariant-loop-rest : goal.invariant-loop-rest
invariant-loop-rest g l = record {
  adding : g.D.Disk.tells → (logs : Logs) (more : List (List ℕ)) → RestsAdding logs l.fn.addition more (g.D.Disk.files l.fn.disk)
      → (index : List (List ℕ)) × AreListed l.entries l.rest index × RestsAdding logs l.addition (more ++ index) (g.D.Disk.files l.disk);
  file : l.addition.file ≡ l.fn.addition.file;
  counts : g.D.Disk.counts l.disk ≡ g.D.Disk.counts l.fn.disk;
}

abbrev pub decreases-loop-rest : goal.decreases-loop-rest
decreases-loop-rest g l = length l.rest
