-- The last one of a list.
use Rattle.std.proofs.Common.{◌≡◌, suc, ◌-◌, List, [], ◌∷◌, length, slice_get, Option, Some, None, refl, sym, ◌∙◌, ap, arith, ℕ}
use Rattle.std.specs.List.{last_or}

-- it is found by its number
pub last_at : {A : Type 0} (xs : List A) → last_or None xs ≡ slice_get xs (length xs - 1)
last_at [] = refl
last_at (x ∷ []) = refl
last_at (x ∷ y ∷ xs) =
    let at : length (x ∷ y ∷ xs) - 1 ≡ suc (length xs) = omega arith in
    let before : length (y ∷ xs) - 1 ≡ length xs = omega arith in
    last_at (y ∷ xs) ∙ ap (slice_get (y ∷ xs)) before ∙ sym (ap (slice_get (x ∷ y ∷ xs)) at)
