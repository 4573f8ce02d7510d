use Rattle.std.proofs.Common.{◌≡◌, ℕ, ◌||◌, drop}
use Rattle.rdf_model.specs.Settled.{has}
use Rattle.rdf_model.specs.Trail.{is_ended}
use Rattle.rdf_model.proofs.settled.ended_in.Given as goal

abbrev pub invariant-loop-entry : goal.invariant-loop-entry
invariant-loop-entry l = (t : ℕ) → (has l.ended t || is_ended t (drop l.entry-index l.trail)) ≡ is_ended t l.trail
