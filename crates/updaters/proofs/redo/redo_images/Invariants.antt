use Rattle.std.proofs.Common.{◌≡◌, ◌≤◌, ◌-◌, map, length, take}
use Rattle.rdf_model.specs.Window.{records}
use Rattle.rdf_volume.specs.Changes.{changed, changes_on}
use Rattle.rdf_volume.specs.Views.{rows_of, restart_of, batches_of, file_of, disk_of, InUse}
use Rattle.rdf_types.specs.Entries.{before}
use Rattle.updaters.proofs.Batching.{TookFull}
use Rattle.updaters.proofs.redo.redo_images.Given as goal

abbrev pub invariant-loop-batch : goal.invariant-loop-batch
invariant-loop-batch g l = record {
  in_use : g.D.Disk.tells → InUse g.D.Disk.files l.volume;
  done : l.done ≤ length l.images;
  behind : restart_of l.initial.volume ≤ restart_of l.volume;
  within : restart_of l.volume ≤ l.upto;
  cut : before (restart_of l.volume) (map g.E.Held.stands l.images) ≡ take l.done (map g.E.Held.stands l.images);
  rows : rows_of l.volume ≡ changed (rows_of l.initial.volume) (changes_on l.vol (records (take l.done (map g.E.Held.stands l.images))));
  batches : TookFull (length (changes_on l.vol (records (take l.done (map g.E.Held.stands l.images))))) (file_of l.initial.volume, batches_of l.initial.volume) (file_of l.volume, batches_of l.volume);
  counts : g.D.Disk.counts (disk_of l.volume) ≡ g.D.Disk.counts (disk_of l.initial.volume);
}

abbrev pub decreases-loop-batch : goal.decreases-loop-batch
decreases-loop-batch g l = length l.images - l.done
