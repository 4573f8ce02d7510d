use Rattle.std.proofs.Common.{refl, inl}
use Rattle.image_trails.specs.DiskFiles.{logs_of}
use Rattle.image_trails.specs.Memory.{plan_of}
use Rattle.image_trails.proofs.PrunedDisks.{none_pruned}
use Rattle.image_trails.proofs.pruning.drop_rest.Goals as goal

pub loop-file-init : goal.loop-file-init
loop-file-init g c = record {
  counts = refl;
  files = λ tells within rests. none_pruned (plan_of c.args.layout.now) (logs_of c.args.files.now) c.args.files.now.base (g.D.Disk.files c.args.disk.now) (λ m below. within m (inl below)) rests;
}
