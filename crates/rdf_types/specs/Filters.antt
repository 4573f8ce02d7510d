-- A list that a test parts: its first ones pass, and all others do not.
use Rattle.std.proofs.Common.{◌≡◌, ℕ, zero, suc, ◌<◌, ◌≤◌, Bool, true, false, not, if◌then◌else◌, List, [], ◌∷◌, length, take, drop, filter, get_or, refl, sym, ◌∙◌, ap, arith}
use Rattle.std.specs.List.{AllWithin}

module _ {X : Type 0} where
  -- where none passes, none is left
  pub filter_none : (p : X → Bool) (xs : List X) → ((i : ℕ) (d : X) → i < length xs → p (get_or xs i d) ≡ false) → filter p xs ≡ []
  filter_none p [] none = refl
  filter_none p (x ∷ xs) none =
      ap (λ (b : Bool). if b then x ∷ filter p xs else filter p xs) (none zero x (omega arith))
      ∙ filter_none p xs (λ i d below. none (suc i) d (omega (arith, below)))

  -- where each passes, the list is left as it is
  pub filter_all : (p : X → Bool) (xs : List X) → ((i : ℕ) (d : X) → i < length xs → p (get_or xs i d) ≡ true) → filter p xs ≡ xs
  filter_all p [] all = refl
  filter_all p (x ∷ xs) all =
      ap (λ (b : Bool). if b then x ∷ filter p xs else filter p xs) (all zero x (omega arith))
      ∙ ap (λ (l : List X). x ∷ l) (filter_all p xs (λ i d below. all (suc i) d (omega (arith, below))))

  -- no more are left than there are
  pub length_filter : (p : X → Bool) (xs : List X) → length (filter p xs) ≤ length xs
  length_filter p [] = omega arith
  length_filter p (x ∷ xs) =
      let fewer : length (filter p xs) ≤ length xs = length_filter p xs in
      elim (p x) as (λ b. length (if b then x ∷ filter p xs else filter p xs) ≤ length (x ∷ xs)) [
        | true ↦ omega (arith, fewer)
        | false ↦ omega (arith, fewer)
      ]

  -- what passes are the first ones
  pub take_filter : (p : X → Bool) (xs : List X) (k : ℕ) → AllWithin (λ y. p y ≡ true) xs 0 k → AllWithin (λ y. p y ≡ false) xs k (length xs) → k ≤ length xs → take k xs ≡ filter p xs
  take_filter p [] zero all none within = refl
  take_filter p [] (suc k) all none within = refl
  take_filter p (x ∷ xs) zero all none within = sym (filter_none p (x ∷ xs) (λ i d below. none i d (omega arith) below))
  take_filter p (x ∷ xs) (suc k) all none within =
      ap (λ (l : List X). x ∷ l) (take_filter p xs k (λ i d low below. all (suc i) d (omega arith) (omega (arith, below))) (λ i d low below. none (suc i) d (omega (arith, low)) (omega (arith, below))) (omega (arith, within)))
      ∙ sym (ap (λ (b : Bool). if b then x ∷ filter p xs else filter p xs) (all zero x (omega arith) (omega arith)))

  -- what the opposite test lets pass are the others
  pub drop_filter : (p q : X → Bool) → ((x : X) → q x ≡ not (p x)) → (xs : List X) (k : ℕ) → AllWithin (λ y. p y ≡ true) xs 0 k → AllWithin (λ y. p y ≡ false) xs k (length xs) → k ≤ length xs → drop k xs ≡ filter q xs
  drop_filter p q other [] zero all none within = refl
  drop_filter p q other [] (suc k) all none within = refl
  drop_filter p q other (x ∷ xs) zero all none within = sym (filter_all q (x ∷ xs) (λ i d below. other (get_or (x ∷ xs) i d) ∙ ap not (none i d (omega arith) below)))
  drop_filter p q other (x ∷ xs) (suc k) all none within =
      drop_filter p q other xs k (λ i d low below. all (suc i) d (omega arith) (omega (arith, below))) (λ i d low below. none (suc i) d (omega (arith, low)) (omega (arith, below))) (omega (arith, within))
      ∙ sym (ap (λ (b : Bool). if b then x ∷ filter q xs else filter q xs) (other x ∙ ap not (all zero x (omega arith) (omega arith))))
