-- What a loss of power leaves of a file, by the loss that is chosen.
use Rattle.std.specs.Prelude.{◌≡◌, ℕ, ◌+◌, ◌++◌, max, nat_lt, Bool, true, false, List, [], ◌∷◌, take, drop, length, slice_index, Option, Some, None, if◌then◌else◌}
use Rattle.rdf_disk.specs.Files.{FileState, bytes_of}
use Rattle.folder_disk.specs.Names.{Name, is_whole, IsLeft}
use Rattle.memory_folder.specs.declared.losses.Loss.{Loss}
use Rattle.memory_folder.specs.declared.losses.Loss.TheVariants.{Keep, Lose, Mix}
use Rattle.memory_folder.specs.Fakes.{clean_name}

-- whether the write covers the place
abbrev pub covers_place : ℕ × ℕ → ℕ → Bool
covers_place w i = if nat_lt i w.0 then false else nat_lt i (w.0 + w.1)

-- whether a write that stays covers the place: each second one stays, with the newest or without it
abbrev pub stays_at : Bool → List (ℕ × ℕ) → ℕ → Bool
stays_at newest [] i = false
stays_at newest (w ∷ ws) i = if newest then (if covers_place w i then true else stays_at false ws i) else stays_at true ws i

-- the end of the one that reaches furthest
abbrev pub stays_to : Bool → List (ℕ × ℕ) → ℕ
stays_to newest [] = 0
stays_to true (w ∷ ws) = max (w.0 + w.1) (stays_to false ws)
stays_to false (w ∷ ws) = stays_to true ws

-- the bytes from a place on: what a read gives where a write that stays is, and what was durable elsewhere
abbrev pub mixed_from : Bool → List (ℕ × ℕ) → List ℕ → ℕ → List ℕ → List ℕ
mixed_from newest ws safe i [] = []
mixed_from newest ws safe i (b ∷ bs) = (if stays_at newest ws i then b else slice_index safe i) ∷ mixed_from newest ws safe (i + 1) bs

-- no longer than what was durable, or the end of what stays
abbrev pub mixed : Bool → List (ℕ × ℕ) → List ℕ → List ℕ → List ℕ
mixed newest ws safe bytes = mixed_from newest ws safe 0 (take (max (length safe) (stays_to newest ws)) bytes)

abbrev pub mixed_if : Bool → FileState → Option (List ℕ) → Option (List ℕ)
mixed_if newest f None = None
mixed_if newest f (Some bytes) = Some (mixed newest f.writes (bytes_of f.safe) bytes)

-- a file of which nothing waits for a sync is left as it is
abbrev pub left_if : Loss → Bool → FileState → Option (List ℕ)
left_if Keep whole f = f.seen
left_if Lose true f = f.seen
left_if Lose false f = f.safe
left_if (Mix newest) true f = f.seen
left_if (Mix newest) false f = mixed_if newest f f.seen

abbrev pub left_by : Loss → Name → Option (List ℕ)
left_by loss n = left_if loss (is_whole n) n.file

-- the loss left of a file what it leaves of it, which the rules allow, and nothing of it waits for a sync
pub record Lost (loss : Loss) (old new : Name) : Type 0 where
  pub left : IsLeft old (left_by loss old)
  pub is : new ≡ clean_name (left_by loss old)

-- one place more has what is left of it
pub record IsMixing (newest : Bool) (ws : List (ℕ × ℕ)) (safe : List ℕ) (place : ℕ) (old new : List ℕ) : Type 0 where
  pub length : length new ≡ length old
  pub same : take (place + 1) new ++ mixed_from newest ws safe (place + 1) (drop (place + 1) new) ≡ take place old ++ mixed_from newest ws safe place (drop place old)
