-- What a purge of image trails drops.
use Rattle.std.specs.Prelude.{◌≡◌, ℕ, zero, suc, ◌≤◌, ◌-◌, ◌^◌, min, Bool, false, ◌&&◌, nat_lt, nat_le, if◌then◌else◌, List, [], ◌∷◌, length, fold, Result, OnOk, OnErr, IfOk}
use Rattle.rdf_disk.specs.Files.{Disk, Contents}
use Rattle.rdf_disk.specs.Counts.{Counts}
use Rattle.rdf_disk.specs.Outcomes.{Durably}
use Rattle.rdf_gatelog.specs.declared.fault.LogFault.{LogFault}
use Rattle.image_disks.specs.Blocks.{Block, Plan}
use Rattle.image_disks.specs.Spelled.{block_of}
use Rattle.image_disks.specs.Values.{Value, Alike, first_of, dropped}
use Rattle.image_disks.specs.Standing.{StandsFor}
use Rattle.image_trails.specs.declared.trails.ImageTrails.{ImageTrails}
use Rattle.image_trails.specs.Trails.{trails_disk, trails_plan, trails_value, AreInUse, AreHeld, LeavesHeld, KeepsHeld, KeepsPhase, Stays}

-- the least of the restart points and the low position
abbrev pub least : List ℕ → ℕ → ℕ
least points low = fold (λ a p. min a p) low points

-- the first of these generations may go: more than the retained ones stand, and the second starts at or below the floor
abbrev pub first_may_go : ℕ → ℕ → List ℕ → Bool
first_may_go retain floor [] = false
first_may_go retain floor (s ∷ rest) = nat_lt retain (suc (length rest)) && nat_le (first_of rest) floor

-- how many first ones go, one after the other
abbrev pub gone : ℕ → ℕ → List ℕ → ℕ
gone retain floor [] = 0
gone retain floor (s ∷ rest) = if first_may_go retain floor (s ∷ rest) then suc (gone retain floor rest) else 0

-- without so many first generations
abbrev pub without : ℕ → Value → Value
without zero v = v
without (suc n) v = dropped (without n v)

-- some first ones of so many generations are gone, and no others
abbrev pub StandsWithout : (List ℕ → Block) → Plan → ℕ → Value → Contents → Type 0
StandsWithout block_of plan most v c = (n : ℕ) × (n ≤ most) × StandsFor block_of plan (without n v) c

-- What a purge does that has so many first generations to drop, whatever it answers.
pub record Purges {D : Type 0} (tells : Type 0) (files : D → Disk) (counts : D → Counts) (many : ℕ) (old : ImageTrails D) (result : Result ℕ LogFault) (new : ImageTrails D) : Type 0 where
  -- done, the trails are in use
  pub ok : tells → OnOk result (AreInUse files new)
  -- and stand for what was without these
  pub value : tells → OnOk result (Alike (trails_value new) (without many (trails_value old)))
  -- in the phase that they were in
  pub phase : KeepsPhase result old new
  -- the answer is how many they were
  pub count : tells → IfOk result (λ n. n ≡ min many (2 ^ 32 - 1))
  -- ended by a fault, the disk durably stands for what was without some first ones of these
  pub err : tells → OnErr result (Durably (files (trails_disk new)) (StandsWithout block_of (trails_plan old) many (trails_value old)))
  -- a trail that was held is held on
  pub held : tells → OnOk result (KeepsHeld (AreHeld old) old new)
  -- also by what is left after a fault
  pub left : tells → OnErr result (LeavesHeld files (AreHeld old) old new)
  -- the layout stays, a fault has its cause, and no damage is told
  pub stays : Stays counts result old new
