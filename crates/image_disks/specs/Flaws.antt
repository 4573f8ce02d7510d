-- What the contents of an image disk lack, where they stand for no value.
use Rattle.std.specs.Prelude.{◌≡◌, ◌≢◌, ◌⊎◌, ℕ, ◌+◌, ◌<◌, ◌≤◌, true, List, [], ◌∷◌, ◌++◌, map, length, Some, None}
use Rattle.rdf_types.specs.declared.records.Phase.{Phase}
use Rattle.rdf_disk.specs.Files.{Contents}
use Rattle.rdf_gatelog.specs.Log.{IsDamaged, open_blocks}
use Rattle.rdf_gatelog.specs.Logs.{Logs, Reads}
use Rattle.image_disks.specs.Blocks.{Block, Start, Plan, end_after, IsPhaseAt, AreInPlace}
use Rattle.image_disks.specs.Standing.{file_of, most_generations, StandsFor}
use Rattle.image_disks.specs.Values.{Value}

-- the master of a generation begins with this Start
pub record HasStart (block_of : List ℕ → Block) (logs : Logs) (g start : ℕ) (phase : Phase) (rest : List (List ℕ)) : Type 0 where
  pub first : List ℕ
  pub log : logs (file_of g 0) ≡ Some (first ∷ rest)
  pub is : block_of first ≡ Start start phase

-- the generation stands
abbrev pub Stands : (List ℕ → Block) → Logs → ℕ → Type 0
Stands block_of logs g = (start : ℕ) × ((phase : Phase) × ((rest : List (List ℕ)) × HasStart block_of logs g start phase rest))

-- The block behind these isn't in its place, and they are: in a trail's file that ends there so far, and whose blocks begin at that place.
pub record IsFirstMisplaced (block_of : List ℕ → Block) (plan : Plan) (t start place : ℕ) (payloads : List (List ℕ)) (at : ℕ) : Type 0 where
  pub before : List (List ℕ)
  pub payload : List ℕ
  pub behind : List (List ℕ)
  pub payloads_are : payloads ≡ before ++ payload ∷ behind
  pub at_is : at ≡ place + length (open_blocks before)
  pub so_far : AreInPlace plan t start (map block_of before)
  pub no_further : AreInPlace plan t start (map block_of (before ++ payload ∷ [])) → ⊥

-- a block of a standing master, behind its Start, is the first one that isn't in its place
pub record IsMasterMisplaced (block_of : List ℕ → Block) (plan : Plan) (logs : Logs) (file at : ℕ) : Type 0 where
  pub g : ℕ
  pub start : ℕ
  pub phase : Phase
  pub rest : List (List ℕ)
  pub master : HasStart block_of logs g start phase rest
  pub file_is : file ≡ file_of g 0
  pub first : IsFirstMisplaced block_of plan 0 start (5 + length master.first) rest at

-- a block of a secondary of a standing generation is the first one that isn't in its place
pub record IsSecondMisplaced (block_of : List ℕ → Block) (plan : Plan) (logs : Logs) (file at : ℕ) : Type 0 where
  pub g : ℕ
  pub t : ℕ
  pub second : (t ≢ 0) × (t < 4) × (plan.used t ≡ true)
  pub start : ℕ
  pub phase : Phase
  pub rest : List (List ℕ)
  pub master : HasStart block_of logs g start phase rest
  pub file_is : file ≡ file_of g t
  pub payloads : List (List ℕ)
  pub there : logs file ≡ Some payloads
  pub first : IsFirstMisplaced block_of plan t start 0 payloads at

-- a Start may stand in this master: there are no more generations than there may be, its phase ends in time, and it is where the generation before it ends
pub record MayStart (block_of : List ℕ → Block) (logs : Logs) (g start : ℕ) (phase : Phase) : Type 0 where
  pub few : g ≤ most_generations
  pub in_time : IsPhaseAt start phase
  pub joins : (h s : ℕ) (p : Phase) (rest : List (List ℕ)) → h < g → HasStart block_of logs h s p rest → ((k : ℕ) → h < k → k < g → Stands block_of logs k → ⊥) → start ≡ end_after s (map block_of rest)

-- a master begins with a block that isn't a Start, or with a Start that may not stand there
pub record IsBadStart (block_of : List ℕ → Block) (logs : Logs) (file at : ℕ) : Type 0 where
  pub g : ℕ
  pub file_is : file ≡ file_of g 0
  pub at_is : at ≡ 0
  pub first : List ℕ
  pub rest : List (List ℕ)
  pub log : logs file ≡ Some (first ∷ rest)
  pub bad : (start : ℕ) (phase : Phase) → block_of first ≡ Start start phase → MayStart block_of logs g start phase → ⊥

-- a secondary of a standing generation is absent, or ends below its master
pub record IsShortSecond (block_of : List ℕ → Block) (plan : Plan) (logs : Logs) (file at : ℕ) : Type 0 where
  pub g : ℕ
  pub t : ℕ
  pub second : (t ≢ 0) × (t < 4) × (plan.used t ≡ true)
  pub file_is : file ≡ file_of g t
  pub start : ℕ
  pub phase : Phase
  pub rest : List (List ℕ)
  pub master : HasStart block_of logs g start phase rest
  pub short : ((logs file ≡ None) × (at ≡ 0))
      ⊎ ((payloads : List (List ℕ)) × (logs file ≡ Some payloads) × (at ≡ length (open_blocks payloads)) × (end_after start (map block_of payloads) < end_after start (map block_of rest)))

-- no generation stands; the place is that of the lowest file, or of file 0 where there is none
pub record IsEmpty (block_of : List ℕ → Block) (logs : Logs) (file at : ℕ) : Type 0 where
  pub none : (g : ℕ) → Stands block_of logs g → ⊥
  pub at_is : at ≡ 0
  pub lowest : (m : ℕ) → logs m ≢ None → (file ≤ m) × (logs file ≢ None)
  pub blank : ((m : ℕ) → logs m ≡ None) → file ≡ 0

-- what logs lack
abbrev pub IsFlawIn : (List ℕ → Block) → Plan → Logs → ℕ → ℕ → Type 0
IsFlawIn block_of plan logs file at =
    IsMasterMisplaced block_of plan logs file at
    ⊎ (IsSecondMisplaced block_of plan logs file at ⊎ (IsBadStart block_of logs file at ⊎ (IsShortSecond block_of plan logs file at ⊎ IsEmpty block_of logs file at)))

-- what `Damaged` names: a broken gate, or, where each file is a log, a block that isn't in its place or is missing
abbrev pub IsFlaw : (List ℕ → Block) → Plan → Contents → ℕ → ℕ → Type 0
IsFlaw block_of plan c file at = ((c file ≢ None) × IsDamaged (c file) at) ⊎ ((logs : Logs) × Reads logs c × IsFlawIn block_of plan logs file at)

-- contents that stand for a value have no flaw
abbrev pub NoFlaw : Type 0
NoFlaw = (block_of : List ℕ → Block) (plan : Plan) (v : Value) (c : Contents) (file at : ℕ) → plan.used 0 ≡ true → StandsFor block_of plan v c → IsFlaw block_of plan c file at → ⊥
