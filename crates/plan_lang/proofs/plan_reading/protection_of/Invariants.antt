use Rattle.std.proofs.Common.{◌≡◌, take, map}
use Rattle.plan_lang.specs.PlanReading.{is_one}
use Rattle.plan_lang.proofs.plan_reading.protection_of.Given as goal

abbrev pub invariant-loop-digit : goal.invariant-loop-digit
invariant-loop-digit l = l.flags ≡ map is_one (take l.digit-index l.digits)
