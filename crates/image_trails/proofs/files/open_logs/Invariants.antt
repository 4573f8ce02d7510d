use Rattle.std.proofs.Common.{◌≡◌, ◌+◌, length}
use Rattle.image_trails.proofs.FileReads.{IsOpenedSo}
use Rattle.image_trails.proofs.files.open_logs.Given as goal

abbrev pub invariant-loop-file : goal.invariant-loop-file
invariant-loop-file g l = record {
  counts : g.D.Disk.counts l.disk ≡ g.D.Disk.counts l.fn.disk;
  count : l.file ≡ l.base + length l.logs.items;
  files : g.D.Disk.tells → IsOpenedSo l.base l.logs.items (g.D.Disk.files l.fn.disk) (g.D.Disk.files l.disk);
}
