-- What the files of a disk in memory tell, by number.
use Rattle.std.specs.Prelude.{◌≡◌, ◌≢◌, ◌≤◌, ℕ, Bool, false, List, length, nat_eq, Option, Some, None, is_some, refl}
use Rattle.std.specs.Ordering.{nat_cmp}
use Rattle.std.specs.List.{list_any}
use Rattle.std.specs.BTreeMap.{BTreeMap, get}
use Rattle.rdf_disk.specs.Files.{settled}
use Rattle.rdf_disk.specs.MemoryChanges.{Told, quiet, changed, state_of}
use Rattle.rdf_disk.specs.MemoryEntries.{told, meant}
use Rattle.rdf_disk.specs.declared.memory_entry.Entry.{Entry}
use Rattle.rdf_disk.specs.declared.memory_entry.Edit.{Edit}

abbrev pub told_if : Option Entry → Told
told_if None = quiet None
told_if (Some e) = told e

-- a file that has no entry isn't there
abbrev pub told_at : BTreeMap ℕ Entry → ℕ → Told
told_at files n = told_if (get nat_cmp files n)

-- each file that has changes is among the numbers
abbrev pub AreListed : BTreeMap ℕ Entry → List ℕ → Type 0
AreListed files numbers = (n : ℕ) → list_any (nat_eq n) numbers ≡ false → length (told_at files n).changes ≡ 0

-- the file now tells this, and each other file what it told
pub record TellsOf (file : ℕ) (old new : ℕ → Told) (is : Told) : Type 0 where
  pub this : new file ≡ is
  pub others : (m : ℕ) → m ≢ file → new m ≡ old m

-- an edit, an odd or an even one, was made of the file and of no other
abbrev pub Makes : Bool → Edit → ℕ → (ℕ → Told) → (ℕ → Told) → Type 0
Makes odd edit file old new = TellsOf file old new (changed (meant odd edit) (old file))

-- the file is there, and no file that is there has a lower number
pub record IsLowest (files : ℕ → Told) (n : ℕ) : Type 0 where
  pub there : (files n).seen ≢ None
  pub least : (m : ℕ) → (files m).seen ≢ None → n ≤ m

-- the file is there, and no file that is there has a higher number
pub record IsHighest (files : ℕ → Told) (n : ℕ) : Type 0 where
  pub there : (files n).seen ≢ None
  pub greatest : (m : ℕ) → (files m).seen ≢ None → m ≤ n

-- a file without an entry isn't there
pub told_none : (o : Option Entry) → is_some o ≡ false → state_of (told_if o) ≡ settled None
told_none None is = refl
told_none (Some e) is = cc
