use Rattle.std.proofs.Common.{◌≡◌, ◌≤◌, ◌-◌, max, length}
use Rattle.rdf_volume.specs.Views.{rows_of, restart_of, disk_of, InUse}
use Rattle.tmf_recovery.specs.Redone.{redone}
use Rattle.tmf_recovery.proofs.volume_redo.redo.Given as goal

abbrev pub invariant-loop-records : goal.invariant-loop-records
invariant-loop-records g l = record {
  in_use : g.D.Disk.tells → InUse g.D.Disk.files l.volume;
  from : restart_of l.initial.volume ≤ restart_of l.volume;
  upto : restart_of l.volume ≤ max (restart_of l.initial.volume) (length l.records);
  rows : rows_of l.volume ≡ redone l.vol l.records (restart_of l.initial.volume) (restart_of l.volume) (rows_of l.initial.volume);
  counts : g.D.Disk.counts (disk_of l.volume) ≡ g.D.Disk.counts (disk_of l.initial.volume);
}

abbrev pub decreases-loop-records : goal.decreases-loop-records
decreases-loop-records g l = length l.records - restart_of l.volume
