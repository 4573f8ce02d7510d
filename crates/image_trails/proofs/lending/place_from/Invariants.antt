use Rattle.std.proofs.Common.{◌≤◌, ◌-◌, length}
use Rattle.image_trails.specs.Lists.{IsPast}
use Rattle.image_trails.proofs.lending.place_from.Given as goal

abbrev pub invariant-loop-next : goal.invariant-loop-next
invariant-loop-next l = record {
  within : l.next ≤ length l.list.items;
  past : IsPast l.place l.at l.list.items → IsPast l.next l.at l.list.items;
}

abbrev pub decreases-loop-next : goal.decreases-loop-next
decreases-loop-next l = length l.list.items - l.next
