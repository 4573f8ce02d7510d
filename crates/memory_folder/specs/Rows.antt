-- The file that a row of a folder in memory tells.
use Rattle.std.specs.Prelude.{◌≡◌, ◌<◌, length, slice_index, ℕ, Bool, true, false, List, [], ◌∷◌, Option, Some, None, refl}
use Rattle.std.specs.Coded.{Coded-set, coded_option, coded_list, coded_ℕ, Unit-prop, le_prop}
use Rattle.std.proofs.Math.Nat.{ℕ_set}
use Rattle.rdf_disk.specs.Files.{FileState, settled, bytes_of}
use Rattle.rdf_disk.specs.Outcomes.{IsOutcome, OutcomeOf, IsRewritten, IsOutside}

abbrev pub content : Bool → List ℕ → Option (List ℕ)
content true bytes = Some bytes
content false bytes = None

-- a row at rest tells what a read gives; another has the bytes that were safe beside those
abbrev pub file_by : Bool → List ℕ → Bool → Bool → List ℕ → List (ℕ × ℕ) → Bool → FileState
file_by there bytes true was safe writes removed = settled (content there bytes)
file_by there bytes false was safe writes removed = record { seen = content there bytes; safe = content was safe; writes = writes; removed = removed }

-- what a read gives may be left
abbrev pub IsSoundFile : FileState → Type 0
IsSoundFile f = IsOutcome f f.seen

file-set : (x y : Option (List ℕ)) → IsProp (x ≡ y)
file-set x y = Coded-set (coded_option (coded_list coded_ℕ)) x y

rewritten-prop : (ws : List (ℕ × ℕ)) (removed : Bool) (safe bytes : List ℕ) → IsProp (IsRewritten ws removed safe bytes)
rewritten-prop ws removed safe bytes = hlevel (le_prop, ℕ_set)

absent-prop : (removed : Bool) (safe : Option (List ℕ)) → IsProp (removed ≡ false → safe ≡ None)
absent-prop removed safe = hlevel file-set

outcome-prop : (ws : List (ℕ × ℕ)) (removed : Bool) (safe x : Option (List ℕ)) → IsProp (OutcomeOf ws removed safe x)
outcome-prop [] false safe x = file-set x safe
outcome-prop [] true safe None = Unit-prop
outcome-prop [] true safe (Some bytes) = file-set safe (Some bytes)
outcome-prop (w ∷ ws) removed safe None = absent-prop removed safe
outcome-prop (w ∷ ws) removed safe (Some bytes) = rewritten-prop (w ∷ ws) removed (bytes_of safe) bytes

pub IsSoundFile-prop : (f : FileState) → IsProp (IsSoundFile f)
IsSoundFile-prop f = outcome-prop f.writes f.removed f.safe f.seen

-- the same of a row
abbrev pub IsSoundRow : Bool → List ℕ → Bool → Bool → List ℕ → List (ℕ × ℕ) → Bool → Type 0
IsSoundRow there bytes rested was safe writes removed = IsSoundFile (file_by there bytes rested was safe writes removed)

pub IsSoundRow-prop : (there : Bool) (bytes : List ℕ) (rested was : Bool) (safe : List ℕ) (writes : List (ℕ × ℕ)) (removed : Bool) → IsProp (IsSoundRow there bytes rested was safe writes removed)
IsSoundRow-prop there bytes rested was safe writes removed = IsSoundFile-prop (file_by there bytes rested was safe writes removed)

-- what a read gives does not depend on whether the row rests
pub seen_by : (there : Bool) (bytes : List ℕ) (rested was : Bool) (safe : List ℕ) (writes : List (ℕ × ℕ)) (removed : Bool) → (file_by there bytes rested was safe writes removed).seen ≡ content there bytes
seen_by there bytes true was safe writes removed = refl
seen_by there bytes false was safe writes removed = refl

-- the bytes that no write covers are as they were
abbrev pub AreSame : List (ℕ × ℕ) → List ℕ → List ℕ → Type 0
AreSame writes safe bytes = (i : ℕ) → i < length bytes → IsOutside writes i → slice_index bytes i ≡ slice_index safe i
