use Rattle.std.proofs.Common.{◌≡◌, take}
use Rattle.image_disks.specs.Blocks.{kept_of}
use Rattle.image_trails.specs.Memory.{plan_of}
use Rattle.image_trails.proofs.parts.copy_kept.Given as goal

abbrev pub invariant-loop-entry : goal.invariant-loop-entry
invariant-loop-entry l = l.kept.items ≡ kept_of (plan_of l.layout) l.trail l.from (take l.entry-index l.part)
