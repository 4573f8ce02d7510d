use Rattle.std.proofs.Common.{◌≡◌, take}
use Rattle.plan_lang.proofs.plan_reading.trails_of.Given as goal

abbrev pub invariant-loop-number : goal.invariant-loop-number
invariant-loop-number l = l.trails ≡ take l.number-index l.numbers
