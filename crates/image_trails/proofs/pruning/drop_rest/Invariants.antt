use Rattle.std.proofs.Common.{◌≡◌, ◌⊎◌, ℕ, ◌<◌, ◌≤◌, None}
use Rattle.rdf_gatelog.specs.Logs.{Rests}
use Rattle.image_trails.specs.DiskFiles.{logs_of}
use Rattle.image_trails.specs.Memory.{plan_of}
use Rattle.image_trails.specs.Opening.{RestsPruned}
use Rattle.image_trails.proofs.pruning.drop_rest.Given as goal

abbrev pub invariant-loop-file : goal.invariant-loop-file
invariant-loop-file g l = record {
  counts : g.D.Disk.counts l.disk ≡ g.D.Disk.counts l.fn.disk;
  files : g.D.Disk.tells → ((m : ℕ) → (m < l.files.base) ⊎ (l.above ≤ m) → logs_of l.files m ≡ None) → Rests (logs_of l.files) (g.D.Disk.files l.fn.disk) → RestsPruned (plan_of l.layout) (logs_of l.files) l.file (g.D.Disk.files l.disk);
}
