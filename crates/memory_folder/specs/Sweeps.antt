-- The same, done to each file of a folder in memory.
use Rattle.std.specs.Prelude.{◌≡◌, ◌≢◌, ◌<◌, ◌≤◌, ℕ}
use Rattle.folder_disk.specs.Names.{Name, Names, entered, rested}
use Rattle.memory_folder.specs.Losses.{Lost}
use Rattle.memory_folder.specs.declared.sweep.Sweep.{Sweep}
use Rattle.memory_folder.specs.declared.sweep.Sweep.TheVariants.{Enter, Rest, Lose}

abbrev pub Swept : Sweep → Name → Name → Type 0
Swept Enter old new = new ≡ entered old
Swept Rest old new = new ≡ rested old
Swept (Lose loss) old new = Lost loss old new

-- it was done to one file
pub record AreSwept (sweep : Sweep) (place : ℕ) (old new : Names) : Type 0 where
  pub this : Swept sweep (old place) (new place)
  pub others : (m : ℕ) → m ≢ place → new m ≡ old m

-- and to each file below a number
pub record IsSweeping (sweep : Sweep) (first now : Names) (place : ℕ) : Type 0 where
  pub done : (m : ℕ) → m < place → Swept sweep (first m) (now m)
  pub still : (m : ℕ) → place ≤ m → now m ≡ first m
