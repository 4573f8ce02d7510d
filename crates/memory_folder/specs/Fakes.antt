-- What a folder in memory tells.
use Rattle.std.proofs.Common.{ap, subst}
use Rattle.std.specs.Prelude.{◌≡◌, ◌≢◌, ◌⊎◌, ℕ, ◌-◌, ◌^◌, ◌≤◌, ◌++◌, Bool, true, false, List, [], ◌∷◌, length, reverse, slice_get, Option, Some, None, refl}
use Rattle.std.proofs.lemmas.Option.{slice_get_past}
use Rattle.rdf_disk.specs.Files.{FileState, settled}
use Rattle.rdf_disk.specs.Outcomes.{IsOutcome}
use Rattle.folder_disk.specs.Names.{Name, Names, ChangesName, is_want}
use Rattle.folder_disk.specs.declared.fault.FolderFault.{FolderFault}
use Rattle.folder_disk.specs.declared.fault.FolderFault.TheVariants.{NotFound}
use Rattle.memory_folder.specs.Rows.{file_by}
use Rattle.memory_folder.specs.declared.row.Row.{Row}

abbrev pub file_of : Row → FileState
file_of r = file_by r.is_there r.bytes.items r.is_rested r.was_there r.safe.items (reverse r.writes.items) r.removed

abbrev pub name_of : Row → Name
name_of r = record { file = file_of r; dirty = r.dirty; moved = r.moved }

-- a file of which nothing waits for a sync
abbrev pub clean_name : Option (List ℕ) → Name
clean_name x = record { file = settled x; dirty = false; moved = false }

abbrev pub name_if : Option Row → Name
name_if None = clean_name None
name_if (Some r) = name_of r

-- file n is row n
abbrev pub name_at : List Row → Names
name_at rows n = name_if (slice_get rows n)

-- what a read gives of a row may be left
sound_if : (r : Option Row) → IsOutcome (name_if r).file (name_if r).file.seen
sound_if None = refl
sound_if (Some r) = r.sound

pub sound_at : (rows : List Row) (n : ℕ) → IsOutcome (name_at rows n).file (name_at rows n).file.seen
sound_at rows n = sound_if (slice_get rows n)

-- there are no files past the rows
pub none_past : (rows : List Row) (n : ℕ) → length rows ≤ n → name_at rows n ≡ clean_name None
none_past rows n past = ap name_if (slice_get_past rows n past)

-- what a loss of power was to leave of a file is left, or that was refused, and nothing changed
abbrev pub Leaves : Bool → ℕ → Option (List ℕ) → Names → Names → Type 0
Leaves true file x old new = ChangesName file old new (clean_name x)
Leaves false file x old new = ChangesName file old new (old file)

-- a call that is refused tells nothing of what is there, and is no want of memory
abbrev pub Planned : Option FolderFault → Type 0
Planned None = Unit {0}
Planned (Some fault) = (fault ≢ NotFound) × (is_want fault ≡ false)

-- the number of a file is noted where the file is there
abbrev pub IsNoted : Names → ℕ → List ℕ → List ℕ → Type 0
IsNoted names place old new = (((names place).file.seen ≢ None) × (new ≡ old ++ place ∷ [])) ⊎ (((names place).file.seen ≡ None) × (new ≡ old))

-- the last number is past the rows
pub none_last_at : (rows : List Row) (many : ℕ) → many ≡ length rows → many ≤ 2 ^ 32 - 1 → (name_at rows (2 ^ 32 - 1)).file ≡ settled None
none_last_at rows many is few = ap (λ (n : Name). n.file) (none_past rows (2 ^ 32 - 1) (subst (λ (k : ℕ). k ≤ 2 ^ 32 - 1) is few))
