-- What is damaged on an audit disk: a block that is no record, a log that is broken, or no file 0.
use Rattle.std.specs.Prelude.{◌≡◌, ◌≢◌, ◌⊎◌, ℕ, ◌<◌, ◌≤◌, List, ◌∷◌, ◌++◌, length, Option, Some, None}
use Rattle.std.specs.List.{AllByRecursion}
use Rattle.rdf_types.specs.declared.records.Record.{Record}
use Rattle.rdf_codec.specs.Spelling.{record_spelling, IsRecord}
use Rattle.rdf_disk.specs.Files.{Contents}
use Rattle.rdf_gatelog.specs.declared.fault.LogFault.{LogFault}
use Rattle.rdf_gatelog.specs.declared.fault.LogFault.TheVariants.{Damaged}
use Rattle.rdf_gatelog.specs.Log.{open_blocks, IsLog, IsBroken}
use Rattle.audit_trail.specs.Spelled.{spellings}

-- the first payload that is no record's spelling, and the place of its gate in a log of the payloads
pub record IsFirstNoRecord (payloads : List (List ℕ)) (at : ℕ) : Type 0 where
  pub before : List Record
  pub payload : List ℕ
  pub after : List (List ℕ)
  pub payloads_are : payloads ≡ spellings before ++ payload ∷ after
  pub records : AllByRecursion IsRecord before
  pub at_is : at ≡ length (open_blocks (spellings before))
  pub no_record : (rec : Record) → IsRecord rec → payload ≢ record_spelling rec

-- the bytes are a log, and that is the place of the first block that is no record
pub record IsNoRecord (bytes : List ℕ) (at : ℕ) : Type 0 where
  pub payloads : List (List ℕ)
  pub log : IsLog payloads bytes
  pub first : IsFirstNoRecord payloads at

-- the lowest file, or file 0 where there is none
pub record IsLowest (contents : Contents) (file : ℕ) : Type 0 where
  pub below : (m : ℕ) → m < file → contents m ≡ None
  pub there : contents file ≡ None → file ≡ 0
  pub none : contents file ≡ None → (m : ℕ) → contents m ≡ None

-- what is damaged at that place of file 0, whose bytes these are; where there is no file 0, place 0 of the lowest file
abbrev pub FlawOf : Option (List ℕ) → Contents → ℕ → ℕ → Type 0
FlawOf None contents file at = (at ≡ 0) × IsLowest contents file
FlawOf (Some bytes) contents file at = (file ≡ 0) × (((2 ≤ length bytes) × IsBroken bytes at) ⊎ IsNoRecord bytes at)

-- the contents are damaged at that place of that file
abbrev pub IsFlaw : Contents → ℕ → ℕ → Type 0
IsFlaw contents file at = FlawOf (contents 0) contents file at

-- the fault isn't that something is damaged
abbrev pub NotDamage : LogFault → Type 0
NotDamage fault = (file at : ℕ) → fault ≡ Damaged file at → ⊥
