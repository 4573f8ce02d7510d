-- Whether a purge may drop the first generation.
use Rattle.std.specs.Prelude.{ℕ, Bool, false, ◌&&◌, nat_lt, nat_le, List, [], ◌∷◌, length}

-- more than the retained ones stand, and the second starts at or below the floor
abbrev pub may_go : ℕ → ℕ → List ℕ → Bool
may_go retain floor [] = false
may_go retain floor (s ∷ []) = false
may_go retain floor (s ∷ t ∷ more) = nat_lt retain (length (s ∷ t ∷ more)) && nat_le t floor
