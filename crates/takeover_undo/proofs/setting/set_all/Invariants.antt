use Rattle.std.proofs.Common.{◌≡◌, ◌≤◌, ◌-◌, length, take}
use Rattle.rdf_volume.specs.Changes.{changed}
use Rattle.rdf_volume.specs.Views.{rows_of, restart_of, file_of, disk_of, InUse}
use Rattle.takeover_undo.proofs.Batching.{IsAt}
use Rattle.takeover_undo.proofs.setting.set_all.Given as goal

abbrev pub invariant-loop-done : goal.invariant-loop-done
invariant-loop-done g l = record {
  in_use : g.D.Disk.tells → InUse g.D.Disk.files l.volume;
  done : l.done ≤ length l.undo;
  point : IsAt l.done (restart_of l.volume) (restart_of l.initial.volume) l.low;
  rows : rows_of l.volume ≡ changed (rows_of l.initial.volume) (take l.done l.undo);
  file : file_of l.volume ≡ file_of l.initial.volume;
  counts : g.D.Disk.counts (disk_of l.volume) ≡ g.D.Disk.counts (disk_of l.initial.volume);
}

abbrev pub decreases-loop-done : goal.decreases-loop-done
decreases-loop-done g l = length l.undo - l.done
