-- What is in memory of a new disk, after a generation more, and after one less.
use Rattle.std.specs.Prelude.{◌≡◌, ◌≢◌, ℕ, ◌+◌, ◌<◌, nat_lt, nat_le, [], ◌∷◌, ◌++◌, filter, get_or}
use Rattle.std.specs.List.Sorted.{IsNonDecreasingBy}
use Rattle.rdf_types.specs.declared.layout.Layout.{Layout}
use Rattle.rdf_types.specs.declared.records.Phase.TheVariants.{Running}
use Rattle.image_disks.specs.Values.{rest_of, second_of}
use Rattle.image_disks.specs.Standing.{file_of}
use Rattle.image_trails.specs.declared.memory.Memory.{Memory}
use Rattle.image_trails.specs.Memory.{starts_of, files_of, lists_of}

-- one generation, which starts there, and nothing in it
pub record IsFresh (of : Layout) (start : ℕ) (m : Memory) : Type 0 where
  pub layout : m.layout ≡ of
  pub starts : starts_of m.generations ≡ start ∷ []
  pub files : files_of m.generations ≡ 0 ∷ []
  pub last : m.last ≡ 0
  pub phase : m.phase ≡ Running
  pub tops : (t : ℕ) → t < 4 → get_or m.tops.items t 0 ≡ start
  pub ends : (t : ℕ) → t < 4 → get_or m.ends.items t 0 ≡ 0
  pub lists : (t : ℕ) → get_or (lists_of m.entries) t [] ≡ []

-- a generation more, which starts where the master ended, and nothing from there on
pub record HasRolled (old new : Memory) (end : ℕ) : Type 0 where
  pub starts : starts_of new.generations ≡ starts_of old.generations ++ get_or old.tops.items 0 0 ∷ []
  pub files : files_of new.generations ≡ files_of old.generations ++ file_of (old.last + 1) 0 ∷ []
  pub last : new.last ≡ old.last + 1
  pub phase : new.phase ≡ old.phase
  pub tops : (t : ℕ) → t < 4 → get_or new.tops.items t 0 ≡ get_or old.tops.items 0 0
  pub master : get_or new.ends.items 0 0 ≡ end
  pub seconds : (t : ℕ) → t < 4 → t ≢ 0 → get_or new.ends.items t 0 ≡ 0
  pub lists : (t : ℕ) → IsNonDecreasingBy (λ s. s.pos) (get_or (lists_of old.entries) t [])
      → get_or (lists_of new.entries) t [] ≡ filter (λ s. nat_lt s.pos (get_or old.tops.items 0 0)) (get_or (lists_of old.entries) t [])

-- a generation less, and nothing before the second one's start
pub record HasDropped (old new : Memory) : Type 0 where
  pub layout : new.layout ≡ old.layout
  pub starts : starts_of new.generations ≡ rest_of (starts_of old.generations)
  pub files : files_of new.generations ≡ rest_of (files_of old.generations)
  pub last : new.last ≡ old.last
  pub phase : new.phase ≡ old.phase
  pub tops : new.tops ≡ old.tops
  pub ends : new.ends ≡ old.ends
  pub lists : (t : ℕ) → IsNonDecreasingBy (λ s. s.pos) (get_or (lists_of old.entries) t [])
      → get_or (lists_of new.entries) t [] ≡ filter (λ s. nat_le (second_of (starts_of old.generations)) s.pos) (get_or (lists_of old.entries) t [])

-- nothing was read yet
pub record IsEmptyMemory (of : Layout) (m : Memory) : Type 0 where
  pub layout : m.layout ≡ of
  pub none : m.generations.items ≡ []
  pub lists : (t : ℕ) → get_or (lists_of m.entries) t [] ≡ []
