use Rattle.std.proofs.Common.{◌≡◌}
use Rattle.keyed_blocks.specs.Bases.{block_rows}
use Rattle.rdf_volume.specs.Base.{Kept, Fills}
use Rattle.rdf_volume.proofs.FillingLaws.{IsSoFar}
use Rattle.rdf_volume.proofs.next_base.push_table.Given as goal

abbrev pub invariant-loop-block : goal.invariant-loop-block
invariant-loop-block g l = record {
  so_far : g.D.Disk.tells → (kept : Kept) (f : Fills l.fn.log l.fn.table kept l.fn.writer (g.D.Disk.files l.fn.disk))
      → IsSoFar f.filling.logs l.writer (g.D.Disk.files l.disk) l.fn.table.overlay (block_rows f.table_is.indexes.blocks) l.block l.merge.to_come;
  laid : l.merge.laid ≡ l.fn.table.overlay;
  file : l.writer.addition.file ≡ l.fn.writer.addition.file;
  counts : g.D.Disk.counts l.disk ≡ g.D.Disk.counts l.fn.disk;
}
