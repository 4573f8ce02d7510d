-- What there is in the lists of the trails, from a position on.
use Rattle.std.specs.Prelude.{◌≡◌, ℕ, ◌<◌, ◌≤◌, Bool, nat_lt, nat_le, List, [], length, filter, get_or, map, Option, Some, None}
use Rattle.std.specs.declared.alloc.Global.{Global}
use Rattle.std.specs.declared.collections.VecDeque.{VecDeque}
use Rattle.std.specs.List.Sorted.{IsNonDecreasingBy}
use Rattle.rdf_types.specs.declared.records.Record.{Record}
use Rattle.rdf_types.specs.declared.records.Stamped.{Stamped}
use Rattle.image_disks.specs.Blocks.{found}
use Rattle.image_disks.specs.Values.{or_else}
use Rattle.image_trails.specs.declared.lists.Side.{Side}
use Rattle.image_trails.specs.declared.lists.Side.TheVariants.{Before, From}

-- the position is before that one, or from it on
abbrev pub is_on : Side → ℕ → ℕ → Bool
is_on Before at pos = nat_lt pos at
is_on From at pos = nat_le at pos

-- each list has what it had on that side of the position, where its positions rose
abbrev pub AreLeft : Side → ℕ → List (List Stamped) → List (List Stamped) → Type 0
AreLeft side at old new = (t : ℕ) → IsNonDecreasingBy (λ s. s.pos) (get_or old t []) → get_or new t [] ≡ filter (λ s. is_on side at s.pos) (get_or old t [])

-- the entries of each list
abbrev pub items_in : List (VecDeque Stamped Global) → List (List Stamped)
items_in lists = map (λ v. v.items) lists

-- the positions of each list rise
abbrev pub AllRise : List (List Stamped) → Type 0
AllRise lists = (t : ℕ) → IsNonDecreasingBy (λ s. s.pos) (get_or lists t [])

-- the entries before a place stand before a position
abbrev pub IsPast : ℕ → ℕ → List Stamped → Type 0
IsPast place at l = (i : ℕ) (s : Stamped) → i < place → i < length l → (get_or l i s).pos < at

-- what stands at a position of all the trails: of two entries the one of the lower trail
abbrev pub all_of : List (List Stamped) → ℕ → Option Record
all_of lists i = or_else (found (get_or lists 0 []) i) (or_else (found (get_or lists 1 []) i) (or_else (found (get_or lists 2 []) i) (found (get_or lists 3 []) i)))

-- nothing stands from one position on and before the other
abbrev pub IsBare : (ℕ → Option Record) → ℕ → ℕ → Type 0
IsBare entry at below = (i : ℕ) → at ≤ i → i < below → entry i ≡ None

-- this one stands there, and none before it from that position on
pub record IsNext (entry : ℕ → Option Record) (at below : ℕ) (s : Stamped) : Type 0 where
  pub behind : at ≤ s.pos
  pub within : s.pos < below
  pub here : entry s.pos ≡ Some s.rec
  pub none : (i : ℕ) → at ≤ i → i < s.pos → entry i ≡ None
