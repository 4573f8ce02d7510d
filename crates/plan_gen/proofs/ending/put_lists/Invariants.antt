use Rattle.std.proofs.Common.{◌≡◌, ◌++◌, ◌-◌}
use Rattle.plan_gen.specs.Generated.{lists}
use Rattle.plan_gen.proofs.ending.put_lists.Given as goal

abbrev pub invariant-loop-vol : goal.invariant-loop-vol
invariant-loop-vol l = l.lines ++ lists l.node (8 - l.vol) l.vol ≡ l.fn.lines ++ lists l.node 8 0
