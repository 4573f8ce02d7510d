-- Each disk in turn is cut, and the others are as they were.
use Rattle.std.proofs.Common.{◌≡◌, inl, inr, ℕ, ◌+◌, ◌<◌, ◌≤◌, List, length, get_or, set, Option, Some, None, sym, ◌∙◌, subst, arith}
use Rattle.std.specs.Prelude.{slice_get}
use Rattle.std.proofs.lemmas.Bool.{cases_eq, cases_lt}
use Rattle.std.proofs.lemmas.Option.{slice_get-get_or, slice_get_past}
use Rattle.node_disks.specs.Cuts.{IfBoth}
use Rattle.node_disks.specs.CutLaws.{set_here, set_else}

-- a loop over all disks: each that is done, and the rest
module _ {X : Type 0} (R : X → X → Type 0) (xs ys : List X) (n : ℕ) (done : (i : ℕ) → i < n → IfBoth R (slice_get xs i) (slice_get ys i)) (left : (i : ℕ) → n ≤ i → slice_get ys i ≡ slice_get xs i) where
  pub step_done : (w d : X) → n < length ys → R (get_or ys n d) w → (i : ℕ) → i < n + 1 → IfBoth R (slice_get xs i) (slice_get (set ys n w) i)
  step_done w d h r i few = elim (cases_eq i n) [
    | inl same ↦ subst (λ (k : ℕ). IfBoth R (slice_get xs k) (slice_get (set ys n w) k)) (sym same)
        (subst (λ (o : Option X). IfBoth R (slice_get xs n) o) (sym (set_here ys n w h)) (subst (λ (o : Option X). IfBoth R o (Some w)) (sym (slice_get-get_or ys n d h) ∙ left n (omega arith)) r))
    | inr other ↦ subst (λ (o : Option X). IfBoth R (slice_get xs i) o) (sym (set_else ys n i w other)) (done i (omega (arith, few, other)))
  ]

  pub step_left : (w : X) (i : ℕ) → n + 1 ≤ i → slice_get (set ys n w) i ≡ slice_get xs i
  step_left w i far = set_else ys n i w (λ e. omega (arith, e, far)) ∙ left i (omega (arith, far))

  pub all_done : length xs ≤ n → length ys ≡ length xs → (i : ℕ) → IfBoth R (slice_get xs i) (slice_get ys i)
  all_done long many i = elim (cases_lt i n) [ inl few ↦ done i few | inr far ↦ subst (λ (o : Option X). IfBoth R o (slice_get ys i)) (sym (slice_get_past xs i (omega (arith, long, far)))) (subst (λ (o : Option X). IfBoth R None o) (sym (slice_get_past ys i (omega (arith, long, many, far)))) tt) ]
