use Rattle.std.proofs.Common.{◌≡◌, take}
use Rattle.plan_gen.proofs.layout.protection.Given as goal

abbrev pub invariant-loop-flag : goal.invariant-loop-flag
invariant-loop-flag l = l.protect ≡ take l.flag-index l.flags
