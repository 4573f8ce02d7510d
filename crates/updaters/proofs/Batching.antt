-- The batches that a redo takes.
use Rattle.std.proofs.Common.{◌≡◌, ◌≤◌, ◌<◌, ◌∙◌, ℕ, suc, ◌+◌, ◌-◌, ◌*◌, true, false, nat_lt, List, length, take, drop, refl, ap, arith, length-append}
use Rattle.std.proofs.lemmas.Bool.Decides.{nat_tests}
use Rattle.rdf_types.specs.declared.records.Change.{Change}
use Rattle.rdf_types.specs.declared.records.Stamped.{Stamped}
use Rattle.rdf_model.specs.Window.{records}
use Rattle.rdf_volume.specs.Changes.{changes_on}
use Rattle.updaters.specs.BatchLaws.{batches_rise}
use Rattle.updaters.specs.Batches.{one_batch, after_batches, TookBatches}
use Rattle.updaters.proofs.Redoing.{changes_more}

-- so many changes went in full batches
pub record TookFull (changes : ℕ) (old new : ℕ × ℕ) : Type 0 where
  pub count : ℕ
  pub full : changes ≡ 64 * count
  pub each : new ≡ after_batches count old

-- the number of the file doesn't fall
pub full_rises : (changes : ℕ) (old new : ℕ × ℕ) → TookFull changes old new → old.0 ≤ new.0
full_rises changes old new took = omega (arith, batches_rise took.count old, ap (λ (p : ℕ × ℕ). p.0) took.each)

pub none_taken : (at : ℕ × ℕ) → TookBatches 0 at at
none_taken at = record {
  count = 0;
  enough = omega arith;
  few = omega arith;
  each = refl;
}

module _ (vol : ℕ) (entries : List Stamped) (done n : ℕ) (batch : List Change) (is : batch ≡ changes_on vol (records (take n (drop done entries)))) (first : ℕ × ℕ) (file batches new_file new_batches : ℕ)
    (so_far : TookFull (length (changes_on vol (records (take done entries)))) first (file, batches)) (file_is : new_file ≡ (one_batch (file, batches)).0) (batches_are : new_batches ≡ (one_batch (file, batches)).1) where
  count_more : length (changes_on vol (records (take (done + n) entries))) ≡ length (changes_on vol (records (take done entries))) + length batch
  count_more = ap (λ (cs : List Change). length cs) (changes_more vol entries done n batch is) ∙ length-append (changes_on vol (records (take done entries))) batch

  one_more : (new_file, new_batches) ≡ after_batches (suc so_far.count) first
  one_more =
      let both : (new_file, new_batches) ≡ one_batch (file, batches) = λ i. (file_is i, batches_are i) in
      both ∙ ap one_batch so_far.each

  -- a full batch more
  pub full_more : length batch ≡ 64 → TookFull (length (changes_on vol (records (take (done + n) entries)))) first (new_file, new_batches)
  full_more whole = record {
    count = suc so_far.count;
    full = omega (arith, count_more, whole, so_far.full);
    each = one_more;
  }

  -- the last batch
  pub last_taken : length batch ≤ 64 → TookBatches (length (changes_on vol (records (take (done + n) entries)))) first (new_file, new_batches)
  last_taken within = record {
    count = suc so_far.count;
    enough = omega (arith, count_more, within, so_far.full);
    few = omega (arith, count_more, so_far.full);
    each = one_more;
  }

-- a batch behind which entries are left is full
pub is_whole : (size all done n : ℕ) → (size < 64 → n ≡ all - done) → size ≤ 64 → done ≤ all → (done + n ≡ all → ⊥) → size ≡ 64
is_whole size all done n last within so_far more =
    elim (nat_lt size 64) as (λ b. nat_lt size 64 ≡ b → size ≡ 64) [
      | true ↦ λ e. absurd (more (omega (arith, last (grind (arith, nat_tests, e)), so_far)))
      | false ↦ λ e. grind (arith, nat_tests, e, within)
    ] refl
