-- The changes of a file in memory since the last sync, newest first, and what each tear leaves of them.
use Rattle.std.specs.Prelude.{◌≡◌, ℕ, ◌-◌, ◌/◌, ◌==◌, ◌≤◌, Bool, true, false, List, [], ◌∷◌, ◌++◌, length, take, replicate, Option, Some, None, if◌then◌else◌}
use Rattle.std.specs.Coded.{Coded-set, coded_option, coded_list, coded_ℕ, ×_prop, Unit-prop, le_prop}
use Rattle.rdf_disk.specs.declared.fault.Tear.{Tear}
use Rattle.rdf_disk.specs.declared.fault.Tear.TheVariants.{Lose, Keep, Mix}
use Rattle.rdf_disk.specs.Files.{FileState, bytes_of, patched}

-- One change. The first of a disk's writes and removals since its last sync is even, the next is odd, and so on.
pub data Change : Type 0 where
  Write : Bool → ℕ → List ℕ → Change
  Remove : Bool → Change
  FailedWrite : ℕ → ℕ → Change
  FailedRemove : Change

-- with zeros behind it, up to a place
abbrev pub padded : List ℕ → ℕ → List ℕ
padded bytes at = bytes ++ replicate (at - length bytes) 0

-- the file with bytes written at a place; what lies between its end and the place is 0
abbrev pub written : Option (List ℕ) → ℕ → List ℕ → Option (List ℕ)
written x at bytes = Some (patched (padded (bytes_of x) at) at bytes)

-- a change done whole
abbrev pub whole : Change → Option (List ℕ) → Option (List ℕ)
whole (Write odd at bytes) x = written x at bytes
whole (Remove odd) x = None
whole (FailedWrite at n) x = x
whole FailedRemove x = x

-- the first half of some bytes
abbrev pub half : List ℕ → List ℕ
half bytes = take (length bytes / 2) bytes

-- what the tear `mix` does of a change: of an odd write the first half, of an odd removal nothing
abbrev pub torn : Change → Option (List ℕ) → Option (List ℕ)
torn (Write false at bytes) x = written x at bytes
torn (Write true at bytes) x = if length bytes / 2 == 0 then x else written x at (half bytes)
torn (Remove false) x = None
torn (Remove true) x = x
torn (FailedWrite at n) x = x
torn FailedRemove x = x

-- all changes done
abbrev pub done : List Change → Option (List ℕ) → Option (List ℕ)
done [] x = x
done (c ∷ cs) x = whole c (done cs x)

-- all changes torn
abbrev pub mixed : List Change → Option (List ℕ) → Option (List ℕ)
mixed [] x = x
mixed (c ∷ cs) x = torn c (mixed cs x)

-- the places and lengths of the writes
abbrev pub ranges : List Change → List (ℕ × ℕ)
ranges [] = []
ranges (Write odd at bytes ∷ cs) = (at, length bytes) ∷ ranges cs
ranges (Remove odd ∷ cs) = ranges cs
ranges (FailedWrite at n ∷ cs) = (at, n) ∷ ranges cs
ranges (FailedRemove ∷ cs) = ranges cs

-- whether a removal is among the changes
abbrev pub was_removed : List Change → Bool
was_removed [] = false
was_removed (Write odd at bytes ∷ cs) = was_removed cs
was_removed (Remove odd ∷ cs) = true
was_removed (FailedWrite at n ∷ cs) = was_removed cs
was_removed (FailedRemove ∷ cs) = true

-- each write began within the file, or at its end
abbrev pub Begins : List Change → Option (List ℕ) → Type 0
Begins [] x = Unit {0}
Begins (Write odd at bytes ∷ cs) x = (at ≤ length (bytes_of (done cs x))) × Begins cs x
Begins (Remove odd ∷ cs) x = Begins cs x
Begins (FailedWrite at n ∷ cs) x = Begins cs x
Begins (FailedRemove ∷ cs) x = Begins cs x

-- what a disk in memory tells of a file: what a read gives, what the last sync made safe, and the changes since
pub record Told : Type 0 where
  pub seen : Option (List ℕ)
  pub safe : Option (List ℕ)
  pub changes : List Change

abbrev pub quiet : Option (List ℕ) → Told
quiet x = record { seen = x; safe = x; changes = [] }

-- with one change more
abbrev pub changed : Change → Told → Told
changed c t = record { seen = whole c t.seen; safe = t.safe; changes = c ∷ t.changes }

-- what a stop leaves: the file as at the last sync, all changes done, or the changes torn
abbrev pub left_by : Tear → Told → Option (List ℕ)
left_by Lose t = t.safe
left_by Keep t = done t.changes t.safe
left_by Mix t = mixed t.changes t.safe

abbrev pub state_of : Told → FileState
state_of t = record { seen = t.seen; safe = t.safe; writes = ranges t.changes; removed = was_removed t.changes }

-- what a read gives is what the changes made of the last sync's bytes
pub record IsTold (t : Told) : Type 0 where
  pub done : t.seen ≡ done t.changes t.safe
  pub begins : Begins t.changes t.safe

file-set : (x y : Option (List ℕ)) → IsProp (x ≡ y)
file-set x y = Coded-set (coded_option (coded_list coded_ℕ)) x y

begins-prop : (cs : List Change) (x : Option (List ℕ)) → IsProp (Begins cs x)
begins-prop [] x = Unit-prop
begins-prop (Write odd at bytes ∷ cs) x = ×_prop le_prop (begins-prop cs x)
begins-prop (Remove odd ∷ cs) x = begins-prop cs x
begins-prop (FailedWrite at n ∷ cs) x = begins-prop cs x
begins-prop (FailedRemove ∷ cs) x = begins-prop cs x

pub IsTold-prop : (t : Told) → IsProp (IsTold t)
IsTold-prop t = hlevel (file-set, begins-prop)
