-- What a folder in memory tells, and what becomes of a name in it.
use Rattle.std.specs.Prelude.{◌≡◌, ℕ, List, Some}
use Rattle.rdf_disk.specs.Files.{bytes_of, patched}
use Rattle.folder_disk.specs.Names.{Name, Names, filled, unmade}
use Rattle.memory_folder.specs.Fakes.{name_at}
use Rattle.memory_folder.specs.declared.folder.MemFolder.{MemFolder}

abbrev pub names_of : MemFolder → Names
names_of f = name_at f.rows.items

-- with these bytes at a place
abbrev pub filled_at : Name → ℕ → List ℕ → Name
filled_at n at bytes = filled n (Some (patched (bytes_of n.file.seen) at bytes))

-- a write or a removal that was not done leaves what a read gives, which waits for a sync
abbrev pub soiled : Name → Name
soiled n = filled n n.file.seen

abbrev pub disturbed : Name → Name
disturbed n = unmade n n.file.seen

-- the count of the calls, those that are refused, the pieces in which bytes are moved, and the power are as before
abbrev pub SameCalls : MemFolder → MemFolder → Type 0
SameCalls old new = (new.calls ≡ old.calls) × (new.refused ≡ old.refused) × (new.piece ≡ old.piece) × (new.supply ≡ old.supply)
