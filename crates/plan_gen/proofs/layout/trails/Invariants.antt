use Rattle.std.proofs.Common.{◌≡◌, take}
use Rattle.plan_gen.proofs.layout.trails.Given as goal

abbrev pub invariant-loop-number : goal.invariant-loop-number
invariant-loop-number l = l.trails ≡ take l.number-index l.numbers
