use Rattle.std.proofs.Common.{◌≤◌, ◌-◌}
use Rattle.backup_machine.specs.Kept.{AreNoted}
use Rattle.backup_machine.proofs.notes.note_up_to.Given as goal

abbrev pub invariant-loop-done : goal.invariant-loop-done
invariant-loop-done l = record { noted : AreNoted l.layout l.trail l.done l.opens; order : l.done ≤ l.to }

abbrev pub decreases-loop-done : goal.decreases-loop-done
decreases-loop-done l = l.to - l.done
