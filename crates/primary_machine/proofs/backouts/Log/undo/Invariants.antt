use Rattle.std.proofs.Common.{◌≡◌, length}
use Rattle.primary_machine.specs.Backouts.{all_again}
use Rattle.primary_machine.proofs.backouts.Log.undo.Given as goal

abbrev pub invariant-loop-key : goal.invariant-loop-key
invariant-loop-key l = all_again l.places l.entries.items ≡ all_again l.fn.places l.fn.self

abbrev pub decreases-loop-key : goal.decreases-loop-key
decreases-loop-key l = length l.entries.items
