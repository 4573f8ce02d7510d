use Rattle.std.proofs.Common.{◌≡◌, ◌++◌, take, drop}
use Rattle.copyaudit.specs.Copying.{first_rising}
use Rattle.copyaudit.proofs.message.rising.Given as goal

abbrev pub invariant-loop-i : goal.invariant-loop-i
invariant-loop-i l = first_rising l.fn.from l.to l.entries ≡ take l.i l.entries ++ first_rising l.low l.to (drop l.i l.entries)
