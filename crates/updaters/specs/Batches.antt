-- When a volume is written anew.
use Rattle.std.specs.Prelude.{◌≡◌, ◌≤◌, ℕ, zero, suc, ◌+◌, ◌-◌, ◌*◌, ◌^◌, Bool, min, if◌then◌else◌}
use Rattle.rdf_volume.specs.Calls.{is_due as is_due_from}

-- a volume in this file is checkpointed at so many batches: from the 256th on
abbrev pub is_due : ℕ → ℕ → Bool
is_due file batches = is_due_from 256 file batches

-- the batches since the base, where there were so many before one more; they are counted to a type's end
abbrev pub one_more : ℕ → ℕ
one_more batches = min (batches + 1) (2 ^ 32 - 1)

-- the batches since the base after one more
abbrev pub batches_after : ℕ → ℕ → ℕ
batches_after file batches = if is_due file (one_more batches) then 0 else one_more batches

-- the number of the file after one more batch
abbrev pub file_after : ℕ → ℕ → ℕ
file_after file batches = if is_due file (one_more batches) then file + 1 else file

-- the number of the file and the batches since the base after one more batch
abbrev pub one_batch : ℕ × ℕ → ℕ × ℕ
one_batch at = (file_after at.0 at.1, batches_after at.0 at.1)

-- the same after so many more
abbrev pub after_batches : ℕ → ℕ × ℕ → ℕ × ℕ
after_batches zero at = at
after_batches (suc n) at = one_batch (after_batches n at)

-- so many changes went in batches of 64, the last one of which may be smaller or empty
pub record TookBatches (changes : ℕ) (old new : ℕ × ℕ) : Type 0 where
  pub count : ℕ
  pub enough : changes ≤ 64 * count
  pub few : 64 * count ≤ changes + 64
  pub each : new ≡ after_batches count old
