use Rattle.std.proofs.Common.{◌≡◌, ◌++◌, drop}
use Rattle.powered_disk.specs.Losing.{failures}
use Rattle.powered_disk.proofs.powered.failing.Given as goal

abbrev pub invariant-loop-call : goal.invariant-loop-call
invariant-loop-call l = failures l.calls ≡ l.refused.items ++ failures (drop l.call-index l.calls)
