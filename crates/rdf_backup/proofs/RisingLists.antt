-- Volumes that rise one after the other.
use Rattle.std.proofs.lemmas.Option.{same_Some}
use Rattle.std.proofs.Common.{◌≡◌, ◌≢◌, ℕ, zero, suc, ◌≤◌, true, List, [], ◌∷◌, Option, Some, None, IfSome, refl, subst, arith}
use Rattle.std.specs.Prelude.{slice_get}
use Rattle.std.specs.List.{slice_set}
use Rattle.rdf_types.specs.declared.layout.Layout.{Layout}
use Rattle.rdf_types.specs.declared.records.Record.{Record}
use Rattle.rdf_types.specs.declared.records.Stamped.{Stamped}
use Rattle.rdf_volume.specs.declared.volume.Volume.{Volume}
use Rattle.rdf_volume.specs.Views.{rows_of, restart_of}
use Rattle.rdf_core.specs.SoundLaws.{at_or_below}
use Rattle.rdf_core.specs.Layouts.{protects}
use Rattle.rdf_backup.specs.Replies.{IfBoth}
use Rattle.rdf_backup.specs.Raised.{MayRise, RoseIf, AreRisen, AreBehind}
use Rattle.node_disks.specs.CutLaws.{both_so}

-- two lists by places

-- the element of the one list beside that of the other one
pub both_at : {X : Type 0} (R : X → X → Type 0) (o p : Option X) (y : X) → p ≡ Some y → IfBoth R o p → (x : X) × (o ≡ Some x) × R x y
both_at R None None y e h = cc
both_at R None (Some z) y e h = absurd h
both_at R (Some x) None y e h = absurd h
both_at R (Some x) (Some z) y e h = (x, refl, subst (λ w. R x w) (same_Some z y e) h)

-- one element of the second list is replaced
pub set_both : {X : Type 0} (R Q : ℕ → X → X → Type 0) (xs ys : List X) (n : ℕ) (w : X) → ((i : ℕ) (x y : X) → i ≢ n → R i x y → Q i x y) → ((x y : X) → slice_get ys n ≡ Some y → R n x y → Q n x w) →
    ((i : ℕ) → IfBoth (R i) (slice_get xs i) (slice_get ys i)) → (i : ℕ) → IfBoth (Q i) (slice_get xs i) (slice_get (slice_set ys n w) i)
set_both R Q [] [] n w other here each i = tt
set_both R Q (x ∷ xs) [] n w other here each i = absurd (each 0)
set_both R Q [] (y ∷ ys) n w other here each i = absurd (each 0)
set_both R Q (x ∷ xs) (y ∷ ys) zero w other here each zero = here x y refl (each zero)
set_both R Q (x ∷ xs) (y ∷ ys) zero w other here each (suc i) = both_so (R (suc i)) (Q (suc i)) (slice_get xs i) (slice_get ys i) (λ a b r. other (suc i) a b (λ e. absurd (omega (arith, e))) r) (each (suc i))
set_both R Q (x ∷ xs) (y ∷ ys) (suc n) w other here each zero = other zero x y (λ e. absurd (omega (arith, e))) (each zero)
set_both R Q (x ∷ xs) (y ∷ ys) (suc n) w other here each (suc i) =
    set_both (λ k. R (suc k)) (λ k. Q (suc k)) xs ys n w (λ k a b ne r. other (suc k) a b (λ e. ne (omega (arith, e))) r) here (λ k. each (suc k)) i

module _ {D : Type 0} (layout : Layout) (trail : List Record) (upto : ℕ) where
  abbrev Rose : ℕ → ℕ → Volume D → Volume D → Type 0
  Rose done i was is = RoseIf (protects layout i) trail done upto i (rows_of was) (restart_of was) (rows_of is) (restart_of is)

  rose_protected : (done i : ℕ) (x y : Volume D) → protects layout i ≡ true → Rose done i x y → RoseIf true trail done upto i (rows_of x) (restart_of x) (rows_of y) (restart_of y)
  rose_protected done i x y on r = subst (λ p. RoseIf p trail done upto i (rows_of x) (restart_of x) (rows_of y) (restart_of y)) on r

  -- a protected volume among them may rise
  pub may_rise : (entries : List Stamped) (done n : ℕ) (first now : List (Volume D)) (was : Volume D) → protects layout n ≡ true → AreBehind layout trail upto entries first → AreRisen layout trail done upto first now → slice_get now n ≡ Some was →
      MayRise layout trail n upto entries (rows_of was) (restart_of was)
  may_rise entries done n first now was on behind h there =
      let b = both_at (Rose done n) (slice_get first n) (slice_get now n) was there (h n) in
      let r = rose_protected done n b.0 was on b.2 in
      let early = subst (λ (o : Option (Volume D)). IfSome o (λ volume. behind.start ≤ restart_of volume)) b.1 (behind.early n on) in
      record {
        start = behind.start;
        on = on;
        early = at_or_below behind.start (restart_of b.0) (restart_of was) early r.0;
        within = r.1;
        entries_are = behind.entries_are;
        shows = r.3;
      }
