-- Entries of a trail whose positions rise strictly, and those on one side of a position.
use Rattle.std.specs.Prelude.{ℕ, suc, ◌+◌, ◌≤◌, nat_le, nat_lt, List, [], ◌∷◌, filter}
use Rattle.rdf_types.specs.declared.records.Stamped.{Stamped}

-- the positions rise strictly, from this one on
abbrev pub RiseFrom : ℕ → List Stamped → Type 0
RiseFrom at [] = Unit {0}
RiseFrom at (s ∷ rest) = (at ≤ s.pos) × RiseFrom (s.pos + 1) rest

-- the positions rise strictly, and lie from the one number to below the other
abbrev pub Rises : ℕ → List Stamped → ℕ → Type 0
Rises low [] high = low ≤ high
Rises low (s ∷ rest) high = (low ≤ s.pos) × Rises (suc s.pos) rest high

-- the entries from the position on
abbrev pub since : ℕ → List Stamped → List Stamped
since at part = filter (λ s. nat_le at s.pos) part

-- the entries below the position
abbrev pub before : ℕ → List Stamped → List Stamped
before at part = filter (λ s. nat_lt s.pos at) part
