use Rattle.std.proofs.Common.{◌≡◌, ◌++◌, map}
use Rattle.std.specs.FinMap.{entries, len}
use Rattle.takeover_undo.specs.Firsts.{as_change}
use Rattle.takeover_undo.proofs.reading.listed.Given as goal

abbrev pub invariant-loop-place : goal.invariant-loop-place
invariant-loop-place l = map as_change (entries l.fn.befores) ≡ l.changes.items ++ map as_change (entries l.befores)

abbrev pub decreases-loop-place : goal.decreases-loop-place
decreases-loop-place l = len l.befores
