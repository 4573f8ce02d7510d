-- What entries are held, as a list of entries.
use Rattle.std.proofs.Common.{◌≡◌, ℕ, ◌<◌, ◌≤◌, Bool, true, false, not, nat_le, nat_lt, if◌then◌else◌, List, [], ◌∷◌, map, length, take, drop, filter, get_or, refl, sym, ap, ap₂, ◌∙◌, arith}
use Rattle.std.specs.List.{AllWithin}
use Rattle.std.specs.List.Sorted.{IsNonDecreasingBy}
use Rattle.std.proofs.lemmas.Bool.Decides.{nat_tests}
use Rattle.std.proofs.lemmas.List.{take-map, drop-map, length-map}
use Rattle.std.proofs.Math.ListN.{get_or-map}
use Rattle.rdf_types.specs.declared.records.Record.{Record}
use Rattle.rdf_types.specs.declared.records.Stamped.{Stamped}
use Rattle.rdf_types.specs.Entries.{RiseFrom, since, before}
use Rattle.rdf_types.specs.EntryLaws.{not_falling}
use Rattle.rdf_types.specs.Filters.{take_filter, drop_filter}
use Rattle.rdf_model.specs.Window.{records}
use Rattle.rdf_volume.specs.Changes.{changes_on}

module _ {X : Type 0} (stands : X → Stamped) where
  -- those whose entry passes a test
  held_filter : (p : Stamped → Bool) (xs : List X) → map stands (filter (λ x. p (stands x)) xs) ≡ filter p (map stands xs)
  held_filter p [] = refl
  held_filter p (x ∷ xs) =
      let rest = held_filter p xs in
      elim (p (stands x)) as (λ b. map stands (if b then x ∷ filter (λ y. p (stands y)) xs else filter (λ y. p (stands y)) xs) ≡ (if b then stands x ∷ filter p (map stands xs) else filter p (map stands xs))) [
        | true ↦ ap (λ (l : List Stamped). stands x ∷ l) rest
        | false ↦ rest
      ]

  pub held_rise : (xs : List X) → RiseFrom 0 (map stands xs) → IsNonDecreasingBy (λ x. (stands x).pos) xs
  held_rise xs rise i j d le below =
      let low = ap (λ (s : Stamped). s.pos) (get_or-map stands xs i d) in
      let high = ap (λ (s : Stamped). s.pos) (get_or-map stands xs j d) in
      let within : j < length (map stands xs) = omega (arith, below, length-map xs stands) in
      omega (arith, low, high, not_falling 0 (map stands xs) rise i j (stands d) le within)

  -- parted where a search says
  pub held_since : (at : ℕ) (xs : List X) (k : ℕ) → AllWithin (λ y. nat_lt (stands y).pos at ≡ true) xs 0 k → AllWithin (λ y. nat_lt (stands y).pos at ≡ false) xs k (length xs) → k ≤ length xs → map stands (drop k xs) ≡ since at (map stands xs)
  held_since at xs k below others within =
      let flipped : (n : ℕ) → nat_le at n ≡ not (nat_lt n at) = λ n. grind (arith, nat_tests) in
      ap (λ (l : List X). map stands l) (drop_filter (λ x. nat_lt (stands x).pos at) (λ x. nat_le at (stands x).pos) (λ x. flipped (stands x).pos) xs k below others within)
      ∙ held_filter (λ s. nat_le at s.pos) xs

  pub held_before : (at : ℕ) (xs : List X) (k : ℕ) → AllWithin (λ y. nat_lt (stands y).pos at ≡ true) xs 0 k → AllWithin (λ y. nat_lt (stands y).pos at ≡ false) xs k (length xs) → k ≤ length xs → map stands (take k xs) ≡ before at (map stands xs)
  held_before at xs k below others within =
      ap (λ (l : List X). map stands l) (take_filter (λ x. nat_lt (stands x).pos at) xs k below others within)
      ∙ held_filter (λ s. nat_lt s.pos at) xs

  -- the entry at an index
  pub held_at : (xs : List X) (i : ℕ) (x : X) (s : Stamped) → x ≡ get_or xs i x → s ≡ stands x → get_or (map stands xs) i (stands x) ≡ s
  held_at xs i x s is e = get_or-map stands xs i x ∙ ap stands (sym is) ∙ sym e

  pub held_within : (xs : List X) (i : ℕ) → i < length xs → i < length (map stands xs)
  held_within xs i below = omega (arith, below, length-map xs stands)

  module _ (holds : X → Record) (same : (x : X) → holds x ≡ (stands x).rec) where
    held_records : (xs : List X) → map holds xs ≡ records (map stands xs)
    held_records [] = refl
    held_records (x ∷ xs) = ap₂ (λ (r : Record) (l : List Record). r ∷ l) (same x) (held_records xs)

    -- the changes of some entries behind others
    pub held_changes : (vol done n : ℕ) (xs : List X) → changes_on vol (map holds (take n (drop done xs))) ≡ changes_on vol (records (take n (drop done (map stands xs))))
    held_changes vol done n xs =
        ap (λ (l : List Record). changes_on vol l) (held_records (take n (drop done xs)))
        ∙ ap (λ (l : List Stamped). changes_on vol (records l)) (sym (take-map stands n (drop done xs)) ∙ ap (λ (l : List Stamped). take n l) (sym (drop-map stands done xs)))
