-- The file of a volume that takes batches.
use Rattle.std.proofs.Common.{◌≤◌, ℕ, zero, suc, ◌+◌, Bool, true, false, cond, ap, arith}
use Rattle.updaters.specs.Batches.{is_due, one_more, one_batch, after_batches, TookBatches}

-- one batch leaves the file or makes the next one
batch_rises : (at : ℕ × ℕ) → at.0 ≤ (one_batch at).0
batch_rises at = by_due (is_due at.0 (one_more at.1))
  where
    by_due : (due : Bool) → at.0 ≤ cond due (at.0 + 1) at.0
    by_due true = omega arith
    by_due false = omega arith

pub batches_rise : (n : ℕ) (at : ℕ × ℕ) → at.0 ≤ (after_batches n at).0
batches_rise zero at = omega arith
batches_rise (suc n) at = omega (arith, batches_rise n at, batch_rises (after_batches n at))

-- the number of the file doesn't fall
pub taken_rises : (changes : ℕ) (old new : ℕ × ℕ) → TookBatches changes old new → old.0 ≤ new.0
taken_rises changes old new took = omega (arith, batches_rise took.count old, ap (λ (p : ℕ × ℕ). p.0) took.each)
