-- Laws of the low position.
use Rattle.std.proofs.Common.{◌≡◌, ◌≤◌, ℕ, zero, suc, Bool, true, false, not, cond, ◌||◌, List, [], ◌∷◌, ◌++◌, length, take, drop, sym, ap, ◌∙◌, subst, arith}
use Rattle.std.proofs.lemmas.Bool.{and_parts, and_from}
use Rattle.std.proofs.lemmas.List.{take-append-drop, take-append-le, length-take}
use Rattle.std.proofs.lemmas.List.Folds.{list_any-append}
use Rattle.rdf_types.specs.declared.records.Record.{Record}
use Rattle.rdf_types.specs.declared.records.Record.TheVariants.{Image, Commit, Abort}
use Rattle.rdf_model.specs.Trail.{is_outcome_of, is_ended}
use Rattle.rdf_model.specs.Window.{is_kept_image, first_place, low}

-- the first place is at most the number of records
pub place_in : (test : Record → Bool) (xs : List Record) → first_place test xs ≤ length xs
place_in test [] = omega arith
place_in test (r ∷ xs) =
    let rest = place_in test xs in
    elim (test r) as (λ m. cond m zero (suc (first_place test xs)) ≤ suc (length xs)) [ true ↦ omega arith | false ↦ omega arith ]

-- the low position is at most the trail's length
pub low_within : (protects : ℕ → Bool) (trail : List Record) → low protects trail ≤ length trail
low_within protects trail = place_in (is_kept_image protects (λ t. not (is_ended t trail))) trail

-- a prefix of a prefix
pub take-take : (m n : ℕ) (trail : List Record) → m ≤ n → n ≤ length trail → take m (take n trail) ≡ take m trail
take-take m n trail h k =
    let enough : m ≤ length (take n trail) = omega (arith, length-take n trail) in
    sym (take-append-le m (take n trail) (drop n trail) enough) ∙ ap (take m) (take-append-drop n trail)

place_step : (a b : Bool) (m n : ℕ) → (b ≡ true → a ≡ true) → m ≤ n → cond a zero (suc m) ≤ cond b zero (suc n)
place_step a b m n less h = grind arith

-- the first place rises where fewer records pass and more records follow
first_place_rises : (test less : Record → Bool) → ((r : Record) → less r ≡ true → test r ≡ true) → (xs ys : List Record) → first_place test xs ≤ first_place less (xs ++ ys)
first_place_rises test less h [] ys = omega arith
first_place_rises test less h (r ∷ xs) ys = place_step (test r) (less r) _ _ (h r) (first_place_rises test less h xs ys)

still_running : (a b : Bool) → not (a || b) ≡ true → not a ≡ true
still_running a b h = grind arith

fewer_kept : (protects who less : ℕ → Bool) → ((t : ℕ) → less t ≡ true → who t ≡ true) → (r : Record) → is_kept_image protects less r ≡ true → is_kept_image protects who r ≡ true
fewer_kept protects who less h (Image t v f k b a) e = and_from _ _ (and_parts (protects v) (less t) e).0 (h t (and_parts (protects v) (less t) e).1)
fewer_kept protects who less h (Commit t) e = e
fewer_kept protects who less h (Abort t) e = e

-- it does not fall as the trail grows
pub low-longer : (protects : ℕ → Bool) (trail more : List Record) → low protects trail ≤ low protects (trail ++ more)
low-longer protects trail more =
    first_place_rises (is_kept_image protects (λ t. not (is_ended t trail))) (is_kept_image protects (λ t. not (is_ended t (trail ++ more))))
    (fewer_kept protects (λ t. not (is_ended t trail)) (λ t. not (is_ended t (trail ++ more)))
    (λ t h. still_running (is_ended t trail) (is_ended t more) (ap not (sym (list_any-append (is_outcome_of t) trail more)) ∙ h)))
    trail more

-- nor from one prefix to a longer one
pub low_rises : (protects : ℕ → Bool) (trail : List Record) (m n : ℕ) → m ≤ n → n ≤ length trail → low protects (take m trail) ≤ low protects (take n trail)
low_rises protects trail m n h k =
    let whole : take m trail ++ drop m (take n trail) ≡ take n trail = ap (λ xs. xs ++ drop m (take n trail)) (sym (take-take m n trail h k)) ∙ take-append-drop m (take n trail) in
    subst (λ xs. low protects (take m trail) ≤ low protects xs) whole (low-longer protects (take m trail) (drop m (take n trail)))

-- that of a prefix is that of the same prefix of a longer trail
pub low_stays : (protects : ℕ → Bool) (trail more : List Record) (m : ℕ) → m ≤ length trail → low protects (take m (trail ++ more)) ≡ low protects (take m trail)
low_stays protects trail more m h = ap (low protects) (take-append-le m trail more h)
