-- When an image disk stands for a value.
use Rattle.std.specs.Prelude.{◌≡◌, ◌⊎◌, ℕ, ◌+◌, ◌*◌, ◌<◌, ◌≤◌, true, false, nat_lt, ◌==◌, if◌then◌else◌, List, [], ◌∷◌, ◌++◌, map, Option, Some, None}
use Rattle.rdf_types.specs.declared.records.Record.{Record}
use Rattle.rdf_types.specs.declared.records.Phase.{Phase}
use Rattle.rdf_disk.specs.Files.{Contents}
use Rattle.rdf_gatelog.specs.Logs.{Logs, Reads}
use Rattle.image_disks.specs.Blocks.{Block, Start, Plan, found, entries, end_after, phase_after, IsPhaseAt, AreInPlace}
use Rattle.image_disks.specs.Values.{Value, Alike}

-- a generation that stands: its number, what its Start says, and by trail the blocks behind that
pub record Gen : Type 0 where
  pub number : ℕ
  pub start : ℕ
  pub phase : Phase
  pub blocks : ℕ → List Block

abbrev pub file_of : ℕ → ℕ → ℕ
file_of g t = 4 * g + t

-- all blocks of a trail's file
abbrev pub all_blocks : Gen → ℕ → List Block
all_blocks g t = if t == 0 then Start g.start g.phase ∷ g.blocks t else g.blocks t

-- where a trail's file ends
abbrev pub end_of : Gen → ℕ → ℕ
end_of g t = end_after g.start (g.blocks t)

-- the greatest number of a generation
abbrev pub most_generations : ℕ
most_generations = 1000000000

-- the generation is in the grammar of its place, and no secondary ends before the master
pub record IsGen (plan : Plan) (g : Gen) : Type 0 where
  pub few : g.number ≤ most_generations
  pub phase : IsPhaseAt g.start g.phase
  pub in_place : (t : ℕ) → AreInPlace plan t g.start (g.blocks t)
  pub no_shorter : (t : ℕ) → t < 4 → plan.used t ≡ true → end_of g 0 ≤ end_of g t
  pub unused : (t : ℕ) → plan.used t ≡ false → g.blocks t ≡ []

-- The generations before a last one: numbers rise, and each starts where the one before it ends.
abbrev pub first_start : List Gen → Gen → ℕ
first_start [] last = last.start
first_start (g ∷ older) last = g.start

abbrev pub first_number : List Gen → Gen → ℕ
first_number [] last = last.number
first_number (g ∷ older) last = g.number

abbrev pub AreGens : Plan → List Gen → Gen → Type 0
AreGens plan [] last = IsGen plan last
AreGens plan (g ∷ older) last = IsGen plan g × (g.number < first_number older last) × (first_start older last ≡ end_of g 0) × AreGens plan older last

-- What stands at a position of a trail: what the generation has that covers it. A secondary's images from the next start on don't count.
abbrev pub entry_of : List Gen → Gen → ℕ → ℕ → Option Record
entry_of [] last t i = found (entries (last.blocks t)) i
entry_of (g ∷ older) last t i = if nat_lt i (first_start older last) then found (entries (g.blocks t)) i else entry_of older last t i

-- what the generations stand for
abbrev pub value_of : List Gen → Gen → Value
value_of older last = record {
  starts = map (λ g. g.start) older ++ last.start ∷ [];
  last = last.number;
  phase = phase_after last.phase (last.blocks 0);
  top = λ t. end_of last t;
  entry = λ t i. entry_of older last t i;
}

-- the blocks of a file
abbrev pub spelled : (List ℕ → Block) → Option (List (List ℕ)) → Option (List Block)
spelled block_of None = None
spelled block_of (Some payloads) = Some (map block_of payloads)

-- the files of a generation
abbrev pub IsOn : (List ℕ → Block) → Plan → Logs → Gen → Type 0
IsOn block_of plan logs g = (t : ℕ) → t < 4 → plan.used t ≡ true → spelled block_of (logs (file_of g.number t)) ≡ Some (all_blocks g t)

abbrev pub AreOn : (List ℕ → Block) → Plan → Logs → List Gen → Gen → Type 0
AreOn block_of plan logs [] last = IsOn block_of plan logs last
AreOn block_of plan logs (g ∷ older) last = IsOn block_of plan logs g × AreOn block_of plan logs older last

abbrev pub IsNumberOf : ℕ → List Gen → Gen → Type 0
IsNumberOf n [] last = n ≡ last.number
IsNumberOf n (g ∷ older) last = (n ≡ g.number) ⊎ IsNumberOf n older last

-- no master file, or one without blocks
abbrev pub IsUnborn : Option (List (List ℕ)) → Type 0
IsUnborn None = Unit {0}
IsUnborn (Some payloads) = payloads ≡ []

-- These are the generations that stand on the disk, and each of their blocks is in its place.
pub record AreStanding (block_of : List ℕ → Block) (plan : Plan) (logs : Logs) (older : List Gen) (last : Gen) : Type 0 where
  pub gens : AreGens plan older last
  pub on : AreOn block_of plan logs older last
  pub unborn : (n : ℕ) → (IsNumberOf n older last → ⊥) → IsUnborn (logs (file_of n 0))

-- the logs stand for a value
abbrev pub Means : (List ℕ → Block) → Plan → Logs → Value → Type 0
Means block_of plan logs v = (older : List Gen) × (last : Gen) × AreStanding block_of plan logs older last × Alike (value_of older last) v

-- by generation the number of its master's file
abbrev pub masters_of : List Gen → Gen → List ℕ
masters_of [] last = file_of last.number 0 ∷ []
masters_of (g ∷ older) last = file_of g.number 0 ∷ masters_of older last

-- the logs stand for a value, and these are the files of their masters
abbrev pub MeansBy : (List ℕ → Block) → Plan → Logs → List ℕ → Value → Type 0
MeansBy block_of plan logs masters v = (older : List Gen) × (last : Gen) × AreStanding block_of plan logs older last × Alike (value_of older last) v × (masters_of older last ≡ masters)

-- the contents stand for a value
abbrev pub StandsFor : (List ℕ → Block) → Plan → Value → Contents → Type 0
StandsFor block_of plan v c = (logs : Logs) × Reads logs c × Means block_of plan logs v

abbrev pub StandsEither : (List ℕ → Block) → Plan → Value → Value → Contents → Type 0
StandsEither block_of plan v w c = StandsFor block_of plan v c ⊎ StandsFor block_of plan w c

abbrev pub StandsForOne : (List ℕ → Block) → Plan → List Value → Contents → Type 0
StandsForOne block_of plan [] c = ⊥
StandsForOne block_of plan (v ∷ vs) c = StandsFor block_of plan v c ⊎ StandsForOne block_of plan vs c

-- what the contents stand for, the others stand for too
abbrev pub SameValues : (List ℕ → Block) → Plan → Contents → Contents → Type 0
SameValues block_of plan c d = (v : Value) → StandsFor block_of plan v c → StandsFor block_of plan v d

-- contents stand for one value at most
abbrev pub OneValue : Type 0
OneValue = (block_of : List ℕ → Block) (plan : Plan) (v w : Value) (c : Contents) → plan.used 0 ≡ true → StandsFor block_of plan v c → StandsFor block_of plan w c → Alike v w
