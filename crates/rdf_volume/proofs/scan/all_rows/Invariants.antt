use Rattle.std.proofs.Common.{◌≡◌, ℕ, List, take}
use Rattle.rdf_types.specs.declared.records.Row.{Row}
use Rattle.rdf_disk.specs.Calls.{Same}
use Rattle.keyed_blocks.specs.Bases.{block_rows}
use Rattle.keyed_blocks.specs.Indexes.{Indexes, joined}
use Rattle.keyed_overlay.specs.Merging.{HasPassed}
use Rattle.rdf_gatelog.specs.Log.{IsAtRest}
use Rattle.rdf_volume.proofs.scan.all_rows.Given as goal

abbrev pub invariant-loop-block : goal.invariant-loop-block
invariant-loop-block g l = record {
  same : g.D.Disk.tells → Same (g.D.Disk.files l.fn.disk) (g.D.Disk.files l.disk);
  laid : l.merge.laid ≡ l.fn.table.overlay;
  passed : g.D.Disk.tells → (base : List Row) (payloads : List (List ℕ)) → IsAtRest l.fn.log.file l.fn.log.end payloads (g.D.Disk.files l.fn.disk) → (i : Indexes l.fn.table.index base payloads)
      → HasPassed l.fn.table.overlay (joined (take l.block (block_rows i.blocks))) l.all.items l.merge.to_come;
  counts : g.D.Disk.counts l.disk ≡ g.D.Disk.counts l.fn.disk;
}
