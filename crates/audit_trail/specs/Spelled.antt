-- What an audit disk stands for: a list of records, the audit trail.
use Rattle.std.specs.Prelude.{◌≡◌, ◌≢◌, ◌⊎◌, ℕ, List, [], ◌∷◌, ◌++◌, map, None}
use Rattle.std.specs.List.{AllByRecursion}
use Rattle.rdf_types.specs.declared.records.Record.{Record}
use Rattle.rdf_codec.specs.Spelling.{record_spelling, IsRecord}
use Rattle.rdf_disk.specs.Files.{Disk, Contents, settled}
use Rattle.rdf_disk.specs.Outcomes.{Durably, Keeps, MayAll, seen_of}
use Rattle.rdf_gatelog.specs.Log.{IsLogFile}

-- the payloads of a trail's log: each is one record's spelling, without a further byte
abbrev pub spellings : List Record → List (List ℕ)
spellings trail = map record_spelling trail

-- the contents spell the trail: file 0 is a log of its records, and there is no other file
pub record Spells (trail : List Record) (contents : Contents) : Type 0 where
  pub log : IsLogFile (spellings trail) (contents 0)
  pub records : AllByRecursion IsRecord trail
  pub alone : (m : ℕ) → m ≢ 0 → contents m ≡ None

-- the trail, or the trail with one record more
abbrev pub SpellsEither : List Record → Record → Contents → Type 0
SpellsEither trail rec contents = Spells trail contents ⊎ Spells (trail ++ rec ∷ []) contents

-- what either of the two spells, the other does too
pub record SameTrail (c d : Contents) : Type 0 where
  pub trail : (trail : List Record) → Spells trail c → Spells trail d
  pub trail_back : (trail : List Record) → Spells trail d → Spells trail c

-- whatever there may be on the disk now spells the same trails as something that there might have been before
abbrev pub KeepsTrail : {D : Type 0} → (D → Disk) → D → D → Type 0
KeepsTrail files old new = Keeps SameTrail (files old) (files new)

-- no file is seen
abbrev pub IsBlank : Disk → Type 0
IsBlank disk = (m : ℕ) → (disk m).seen ≡ None

-- there is no file but file 0, and none is pending
abbrev pub IsAlone : Disk → Type 0
IsAlone disk = (m : ℕ) → m ≢ 0 → disk m ≡ settled None

-- something that there might have been before, or an empty trail
abbrev pub WasOrSpells : Disk → Contents → Type 0
WasOrSpells old contents = MayAll old contents ⊎ Spells [] contents

-- whatever trail the old disk spelled is the one that was found, and the new disk has no other file
abbrev pub IsOnly : List Record → Disk → Disk → Type 0
IsOnly found old new = (trail : List Record) → Spells trail (seen_of old) → (found ≡ trail) × IsAlone new

-- on a disk without other files, the trail durably has the record or is as before
abbrev pub KeepsOrAdds : List Record → Record → Disk → Disk → Type 0
KeepsOrAdds trail rec old new = IsAlone old → Durably new (SpellsEither trail rec)
