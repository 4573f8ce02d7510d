use Rattle.std.proofs.Common.{◌≡◌, ℕ, ◌||◌, drop}
use Rattle.rdf_model.specs.Trail.{is_ended}
use Rattle.rdf_model.specs.Window.{records}
use Rattle.rdf_model.specs.Settled.{has}
use Rattle.takeover_undo.specs.Undo.{lent}
use Rattle.takeover_undo.proofs.reading.ended_in.Given as goal

abbrev pub invariant-loop-entry : goal.invariant-loop-entry
invariant-loop-entry l = (t : ℕ) → (has l.ended t || is_ended t (records (lent (drop l.entry-index l.part)))) ≡ is_ended t (records (lent l.part))
