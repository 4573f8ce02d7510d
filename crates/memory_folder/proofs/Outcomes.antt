-- What was safe may be left.
use Rattle.std.proofs.Common.{ℕ, Bool, true, false, List, [], ◌∷◌, Option, Some, None, refl, arith}
use Rattle.rdf_disk.specs.Outcomes.{OutcomeOf}

pub safe_outcome : (ws : List (ℕ × ℕ)) (removed : Bool) (safe : Option (List ℕ)) → OutcomeOf ws removed safe safe
safe_outcome [] false safe = refl
safe_outcome [] true None = tt
safe_outcome [] true (Some b) = refl
safe_outcome (w ∷ ws) removed None = λ e. refl
safe_outcome (w ∷ ws) true (Some b) = record { no_shorter = omega arith; no_longer = omega arith; same = λ i below out. refl }
safe_outcome (w ∷ ws) false (Some b) = record { no_shorter = omega arith; no_longer = omega arith; same = λ i below out. refl }
