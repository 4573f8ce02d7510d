-- The one spelling of each text, record and row. Numbers are big-endian.
use Rattle.std.specs.Prelude.{ℕ, ◌<◌, ◌^◌, List, [], ◌∷◌, ◌++◌, length, Option, Some, None, IfSome}
use Rattle.std.specs.Int.{w32, to_be_bytes}
use Rattle.rdf_types.specs.declared.records.Record.{Record}
use Rattle.rdf_types.specs.declared.records.Record.TheVariants.{Image, Commit, Abort}
use Rattle.rdf_types.specs.declared.records.Row.{Row}
use Rattle.rdf_types.specs.declared.records.Change.{Change}
use Rattle.rdf_types.specs.Limits.{IsFileName, IsKey, IsValue}

-- a byte of length, and the bytes
abbrev pub text : List ℕ → List ℕ
text bytes = length bytes ∷ bytes

-- 0 where there is none, else 1 and the value
abbrev pub optional : Option (List ℕ) → List ℕ
optional None = 0 ∷ []
optional (Some value) = 1 ∷ text value

-- the kind, the transaction in four bytes, and of an image the volume in one byte and the texts
abbrev pub record_spelling : Record → List ℕ
record_spelling (Image txn vol file key before after) = 1 ∷ to_be_bytes w32 txn ++ vol ∷ text file ++ text key ++ optional before ++ optional after
record_spelling (Commit txn) = 2 ∷ to_be_bytes w32 txn
record_spelling (Abort txn) = 3 ∷ to_be_bytes w32 txn

-- the three texts of a row
abbrev pub row_spelling : Row → List ℕ
row_spelling row = text row.file ++ text row.key ++ text row.value

-- the texts of a change, the value behind its tag
abbrev pub change_spelling : Change → List ℕ
change_spelling change = text change.file ++ text change.key ++ optional change.after

-- within the limits of the types
abbrev pub IsRecord : Record → Type 0
IsRecord (Image txn vol file key before after) = (txn < 2 ^ 32) × (vol < 16) × IsFileName file × IsKey key × IfSome before IsValue × IfSome after IsValue
IsRecord (Commit txn) = txn < 2 ^ 32
IsRecord (Abort txn) = txn < 2 ^ 32

-- a row's texts are within the limits of their types
abbrev pub IsRow : Row → Type 0
IsRow row = IsFileName row.file × IsKey row.key × IsValue row.value

-- a change's texts are
abbrev pub IsChange : Change → Type 0
IsChange change = IsFileName change.file × IsKey change.key × IfSome change.after IsValue
