use Rattle.std.proofs.Common.{◌≡◌}
use Rattle.image_trails.specs.DiskFiles.{logs_of}
use Rattle.image_trails.specs.Memory.{plan_of}
use Rattle.image_trails.specs.Opening.{IsReadUpTo, AreWithin}
use Rattle.image_trails.proofs.opening.read_disk.Given as goal

abbrev pub invariant-loop-number : goal.invariant-loop-number
invariant-loop-number l = record {
  layout : l.memory.layout ≡ l.layout;
  read : AreWithin l.first l.end (logs_of l.files) → IsReadUpTo (plan_of l.layout) (logs_of l.files) l.number l.memory;
}
