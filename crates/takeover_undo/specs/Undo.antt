-- The changes that undo a volume.
use Rattle.std.specs.Prelude.{◌≡◌, ℕ, List, [], ◌∷◌, Option, Some, None, if◌then◌else◌, map}
use Rattle.std.specs.List.Sorted.{IsStrictlySortedBy}
use Rattle.std.specs.Ordering.{eq_by_cmp}
use Rattle.std.specs.Borrow.{Bor}
use Rattle.std.specs.BTreeSet as sorted
use Rattle.rdf_types.specs.declared.records.Change.{Change}
use Rattle.rdf_types.specs.declared.records.RecKey.{RecKey}
use Rattle.rdf_types.specs.declared.records.Stamped.{Stamped}
use Rattle.rdf_types.specs.Places.{row_cmp}
use Rattle.rdf_model.specs.Trail.{undo, is_ended}
use Rattle.rdf_model.specs.Window.{records}
use Rattle.rdf_model.specs.Settled.{has}

-- the entries that are lent
abbrev pub lent : List (Bor Stamped) → List Stamped
lent part = map (λ s. s.now) part

-- the set has just the transactions with an outcome in the part
abbrev pub Ended : sorted.BTreeSet ℕ → List Stamped → Type 0
Ended ended part = (t : ℕ) → has ended t ≡ is_ended t (records part)

-- where a change stands on its volume
abbrev pub change_place : Change → List ℕ × List ℕ
change_place c = (c.file, c.key)

-- what the first change of a file and key sets it to
abbrev pub set_at : List Change → List ℕ × List ℕ → Option (Option (List ℕ))
set_at [] at = None
set_at (c ∷ rest) at = if eq_by_cmp row_cmp at (change_place c) then Some c.after else set_at rest at

-- the changes set, each once and in the order of file and key, just the places of the volume that undo sets, and to the same: first before images of transactions that have no outcome in the part
pub record IsUndo (vol : ℕ) (part : List Stamped) (changes : List Change) : Type 0 where
  pub ordered : IsStrictlySortedBy row_cmp (map change_place changes)
  pub exact : (q : RecKey) → q.vol ≡ vol → set_at changes (q.file, q.key) ≡ undo (records part) q
