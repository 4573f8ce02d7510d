-- What each tear leaves of a file in memory is an outcome of a stop.
use Rattle.std.proofs.Common.{◌≡◌, ◌⊎◌, inl, inr, ⊎_elim, ℕ, zero, suc, ◌+◌, ◌-◌, ◌/◌, ◌==◌, ◌<◌, ◌≤◌, max, Bool, true, false, List, [], ◌∷◌, ◌++◌, length, get_or, replicate, Option, Some, refl, sym, ◌∙◌, ap, subst, arith, length-append, length-take, if◌then◌else◌}
use Rattle.std.proofs.lemmas.List.{get_or_past, append-nil, length-replicate}
use Rattle.std.proofs.lemmas.Bool.{cases_lt}
use Rattle.rdf_disk.specs.declared.fault.Tear.{Tear}
use Rattle.rdf_disk.specs.declared.fault.Tear.TheVariants.{Lose, Keep, Mix}
use Rattle.rdf_disk.specs.Files.{bytes_of, patched}
use Rattle.rdf_disk.specs.Outcomes.{IsOutside, IsRewritten, OutcomeOf, IsOutcome, Settles}
use Rattle.rdf_disk.specs.MemoryChanges.{Change, Write, Remove, FailedWrite, FailedRemove, written, half, padded, torn, done, mixed, ranges, was_removed, Begins, Told, quiet, left_by, state_of, IsTold}
use Rattle.rdf_disk.proofs.EditLaws.{Near, near, edit_long, edit_outside, edit_outcome, touch_outcome, gone_outcome, unlink_outcome}

-- zeros at the end are read as what is past the end
zeros_read : (k i : ℕ) → let zero_byte : ℕ = 0 in get_or (replicate k zero_byte) i zero_byte ≡ zero_byte
zeros_read zero i = refl
zeros_read (suc k) zero = refl
zeros_read (suc k) (suc i) = zeros_read k i

pad_read : (b : List ℕ) (k i : ℕ) → get_or (b ++ replicate k 0) i 0 ≡ get_or b i 0
pad_read [] k i = zeros_read k i
pad_read (x ∷ b) k zero = refl
pad_read (x ∷ b) k (suc i) = pad_read b k i

pub pad_long : (b : List ℕ) (at : ℕ) → length (padded b at) ≡ max (length b) at
pad_long b at = omega (arith, length-append b (replicate (at - length b) 0), length-replicate {A = ℕ} (at - length b) 0)

pub pad_none : (b : List ℕ) (at : ℕ) → at ≤ length b → padded b at ≡ b
pad_none b at within = let z : at - length b ≡ 0 = omega arith in ap (λ (k : ℕ). b ++ replicate k 0) z ∙ append-nil b

-- a write of the first bytes of a range, at a place that may lie past the end
module _ (ws : List (ℕ × ℕ)) (removed : Bool) (safe b : List ℕ) (at n : ℕ) (bytes : List ℕ) (few : length bytes ≤ n) where
  pub fill_long : length (patched (padded b at) at bytes) ≡ max (length b) (at + length bytes)
  fill_long = omega (arith, edit_long (padded b at) at bytes (omega (arith, pad_long b at)), pad_long b at)

  pub fill_read : (i : ℕ) → (i < at) ⊎ (at + length bytes ≤ i) → get_or (patched (padded b at) at bytes) i 0 ≡ get_or b i 0
  fill_read i out = edit_outside (padded b at) at bytes (omega (arith, pad_long b at)) i out ∙ pad_read b (at - length b) i

  in_front : Near ws removed safe b → ((i : ℕ) → length b ≤ i → i < at → IsOutside ws i → length safe ≤ i) → (i : ℕ) → i < at → IsOutside ws i → get_or (patched (padded b at) at bytes) i 0 ≡ get_or safe i 0
  in_front near gap i before out = elim (cases_lt i (length b)) [
    | inl within ↦ fill_read i (inl before) ∙ near.same i within out
    | inr past ↦ fill_read i (inl before) ∙ get_or_past b i 0 past ∙ sym (get_or_past safe i 0 (gap i past before out))
  ]

  fill_near : Near ws removed safe b → ((i : ℕ) → length b ≤ i → i < at → IsOutside ws i → length safe ≤ i) → IsRewritten ((at, n) ∷ ws) removed safe (patched (padded b at) at bytes)
  fill_near near gap = record {
    no_shorter = omega (arith, near.no_shorter, fill_long);
    no_longer = omega (arith, near.no_longer, fill_long);
    same = λ i below out. ⊎_elim (λ (before : i < at). in_front near gap i before out.1) (λ (behind : at + n ≤ i). fill_read i (inr (omega arith)) ∙ near.same i (omega (arith, fill_long)) out.1) out.0;
  }

half_few : (bytes : List ℕ) → length (half bytes) ≤ length bytes
half_few bytes = omega (arith, length-take (length bytes / 2) bytes)

-- with all changes done
pub done_outcome : (cs : List Change) (safe : Option (List ℕ)) → Begins cs safe → OutcomeOf (ranges cs) (was_removed cs) safe (done cs safe)
done_outcome [] safe begins = refl
done_outcome (Write odd at bytes ∷ cs) safe begins =
    subst (λ (b : List ℕ). OutcomeOf ((at, length bytes) ∷ ranges cs) (was_removed cs) safe (Some (patched b at bytes))) (sym (pad_none (bytes_of (done cs safe)) at begins.0))
    (edit_outcome (ranges cs) (was_removed cs) safe (done cs safe) at bytes (done_outcome cs safe begins.1) begins.0)
done_outcome (Remove odd ∷ cs) safe begins = gone_outcome (ranges cs) safe
done_outcome (FailedWrite at n ∷ cs) safe begins = touch_outcome (ranges cs) (was_removed cs) safe (done cs safe) (at, n) (done_outcome cs safe begins)
done_outcome (FailedRemove ∷ cs) safe begins = unlink_outcome (ranges cs) (was_removed cs) safe (done cs safe) (done_outcome cs safe begins)

-- what lies past the torn file, within the file with all changes done, and in no range written, lies past the safe file
abbrev IsGap : List Change → Option (List ℕ) → Type 0
IsGap cs safe = (i : ℕ) → length (bytes_of (mixed cs safe)) ≤ i → i < length (bytes_of (done cs safe)) → IsOutside (ranges cs) i → length (bytes_of safe) ≤ i

either : (P : Option (List ℕ) → Type 0) (b : Bool) (x y : Option (List ℕ)) → P x → P y → P (if b then x else y)
either P true x y px py = px
either P false x y px py = py

written_long : (x : Option (List ℕ)) (at : ℕ) (bytes : List ℕ) → length (bytes_of (written x at bytes)) ≡ max (length (bytes_of x)) (at + length bytes)
written_long x at bytes = omega (arith, edit_long (padded (bytes_of x) at) at bytes (omega (arith, pad_long (bytes_of x) at)), pad_long (bytes_of x) at)

gap_write : (odd : Bool) (at : ℕ) (bytes : List ℕ) (cs : List Change) (safe : Option (List ℕ)) → at ≤ length (bytes_of (done cs safe)) → IsGap cs safe
    → length (bytes_of (mixed cs safe)) ≤ length (bytes_of (torn (Write odd at bytes) (mixed cs safe))) → IsGap (Write odd at bytes ∷ cs) safe
gap_write odd at bytes cs safe within gap longer i past below out = gap i (omega (arith, longer, past)) (⊎_elim (λ (before : i < at). omega arith) (λ (behind : at + length bytes ≤ i). omega (arith, below, written_long (done cs safe) at bytes)) out.0) out.1

torn_longer : (odd : Bool) (at : ℕ) (bytes : List ℕ) (x : Option (List ℕ)) → length (bytes_of x) ≤ length (bytes_of (torn (Write odd at bytes) x))
torn_longer false at bytes x = omega (arith, written_long x at bytes)
torn_longer true at bytes x = either (λ (y : Option (List ℕ)). length (bytes_of x) ≤ length (bytes_of y)) (length bytes / 2 == 0) x (written x at (half bytes)) (omega arith) (omega (arith, written_long x at (half bytes)))

is_gap : (cs : List Change) (safe : Option (List ℕ)) → Begins cs safe → IsGap cs safe
is_gap [] safe begins i past below out = past
is_gap (Write odd at bytes ∷ cs) safe begins i past below out = gap_write odd at bytes cs safe begins.0 (is_gap cs safe begins.1) (torn_longer odd at bytes (mixed cs safe)) i past below out
is_gap (Remove odd ∷ cs) safe begins i past below out = absurd (omega (arith, below))
is_gap (FailedWrite at n ∷ cs) safe begins i past below out = is_gap cs safe begins i past below out.1
is_gap (FailedRemove ∷ cs) safe begins i past below out = is_gap cs safe begins i past below out

fill_outcome : (cs : List Change) (safe : Option (List ℕ)) (at n : ℕ) (bytes : List ℕ) → length bytes ≤ n → at ≤ length (bytes_of (done cs safe)) → IsGap cs safe → OutcomeOf (ranges cs) (was_removed cs) safe (mixed cs safe)
    → OutcomeOf ((at, n) ∷ ranges cs) (was_removed cs) safe (written (mixed cs safe) at bytes)
fill_outcome cs safe at n bytes few within gap outcome =
    fill_near (ranges cs) (was_removed cs) (bytes_of safe) (bytes_of (mixed cs safe)) at n bytes few (near (ranges cs) (was_removed cs) safe (mixed cs safe) outcome) (λ i past before out. gap i past (omega arith) out)

-- with the changes torn
pub mixed_outcome : (cs : List Change) (safe : Option (List ℕ)) → Begins cs safe → OutcomeOf (ranges cs) (was_removed cs) safe (mixed cs safe)
mixed_outcome [] safe begins = refl
mixed_outcome (Write false at bytes ∷ cs) safe begins = fill_outcome cs safe at (length bytes) bytes (omega arith) begins.0 (is_gap cs safe begins.1) (mixed_outcome cs safe begins.1)
mixed_outcome (Write true at bytes ∷ cs) safe begins =
    either (λ (x : Option (List ℕ)). OutcomeOf ((at, length bytes) ∷ ranges cs) (was_removed cs) safe x) (length bytes / 2 == 0) (mixed cs safe) (written (mixed cs safe) at (half bytes))
    (touch_outcome (ranges cs) (was_removed cs) safe (mixed cs safe) (at, length bytes) (mixed_outcome cs safe begins.1))
    (fill_outcome cs safe at (length bytes) (half bytes) (half_few bytes) begins.0 (is_gap cs safe begins.1) (mixed_outcome cs safe begins.1))
mixed_outcome (Remove false ∷ cs) safe begins = gone_outcome (ranges cs) safe
mixed_outcome (Remove true ∷ cs) safe begins = unlink_outcome (ranges cs) (was_removed cs) safe (mixed cs safe) (mixed_outcome cs safe begins)
mixed_outcome (FailedWrite at n ∷ cs) safe begins = touch_outcome (ranges cs) (was_removed cs) safe (mixed cs safe) (at, n) (mixed_outcome cs safe begins)
mixed_outcome (FailedRemove ∷ cs) safe begins = unlink_outcome (ranges cs) (was_removed cs) safe (mixed cs safe) (mixed_outcome cs safe begins)

-- with none of the changes
lost_outcome : (cs : List Change) (safe : Option (List ℕ)) → OutcomeOf (ranges cs) (was_removed cs) safe safe
lost_outcome [] safe = refl
lost_outcome (Write odd at bytes ∷ cs) safe = touch_outcome (ranges cs) (was_removed cs) safe safe (at, length bytes) (lost_outcome cs safe)
lost_outcome (Remove odd ∷ cs) safe = unlink_outcome (ranges cs) (was_removed cs) safe safe (lost_outcome cs safe)
lost_outcome (FailedWrite at n ∷ cs) safe = touch_outcome (ranges cs) (was_removed cs) safe safe (at, n) (lost_outcome cs safe)
lost_outcome (FailedRemove ∷ cs) safe = unlink_outcome (ranges cs) (was_removed cs) safe safe (lost_outcome cs safe)

-- each tear leaves an outcome
pub left_outcome : (tear : Tear) (t : Told) → IsTold t → IsOutcome (state_of t) (left_by tear t)
left_outcome Lose t is = lost_outcome t.changes t.safe
left_outcome Keep t is = done_outcome t.changes t.safe is.begins
left_outcome Mix t is = mixed_outcome t.changes t.safe is.begins

pub left_settles : (tear : Tear) (t u : Told) → IsTold t → u ≡ quiet (left_by tear t) → Settles (state_of t) (state_of u)
left_settles tear t u is left = (left_by tear t, left_outcome tear t is, ap state_of left)
