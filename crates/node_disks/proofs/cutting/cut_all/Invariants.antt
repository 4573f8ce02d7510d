use Rattle.std.proofs.Common.{◌≡◌, ℕ, ◌<◌, ◌≤◌}
use Rattle.std.specs.Prelude.{slice_get}
use Rattle.node_disks.specs.Cuts.{IfBoth, IsCut}
use Rattle.node_disks.proofs.cutting.cut_all.Given as goal

abbrev pub invariant-loop-disk : goal.invariant-loop-disk
invariant-loop-disk g l = record {
  done : (i : ℕ) → i < l.disk-index → IfBoth (IsCut g.D.Disk.tells g.D.Disk.files g.D.Disk.counts) (slice_get l.fn.disks.items i) (slice_get l.disk-items i);
  left : (i : ℕ) → l.disk-index ≤ i → slice_get l.disk-items i ≡ slice_get l.fn.disks.items i;
}
