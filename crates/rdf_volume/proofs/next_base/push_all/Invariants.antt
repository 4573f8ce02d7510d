use Rattle.std.proofs.Common.{◌≡◌, ◌++◌, List}
use Rattle.rdf_types.specs.declared.records.Row.{Row}
use Rattle.rdf_gatelog.specs.Logs.{Logs}
use Rattle.keyed_blocks.specs.Writing.{IsWriting}
use Rattle.rdf_volume.proofs.next_base.push_all.Given as goal

abbrev pub invariant-loop-row : goal.invariant-loop-row
invariant-loop-row g l = record {
  writing : g.D.Disk.tells → (logs : Logs) (out : List Row) → IsWriting logs l.fn.writer out (g.D.Disk.files l.fn.disk) → IsWriting logs l.writer (out ++ l.yielded) (g.D.Disk.files l.disk);
  all : l.fn.rows.items ≡ l.yielded ++ l.row-iterator.rest.items;
  file : l.writer.addition.file ≡ l.fn.writer.addition.file;
  counts : g.D.Disk.counts l.disk ≡ g.D.Disk.counts l.fn.disk;
}
