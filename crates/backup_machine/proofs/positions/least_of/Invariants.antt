use Rattle.std.proofs.Common.{◌≡◌, ◌≤◌, length, drop}
use Rattle.rdf_core.specs.Layouts.{least}
use Rattle.backup_machine.proofs.positions.least_of.Given as goal

abbrev pub invariant-loop-left : goal.invariant-loop-left
invariant-loop-left l = record { within : l.left ≤ length l.protect; low : l.low ≡ least (drop l.left l.protect) (drop l.left l.points) l.end }

abbrev pub decreases-loop-left : goal.decreases-loop-left
decreases-loop-left l = l.left
