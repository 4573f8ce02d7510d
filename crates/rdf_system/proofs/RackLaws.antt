-- What holds of each disk of a rack with its number.
use Rattle.std.proofs.Common.{◌≡◌, ℕ, zero, suc, List, [], ◌∷◌, ◌++◌, Some, length, slice_get, subst}
use Rattle.std.proofs.lemmas.Option.{none-some, same_Some}

-- one more at the end, of which it holds with the length
pub holds_more : {D : Type 0} (P : ℕ → D → Type 0) (xs : List D) (y : D) → ((i : ℕ) (d : D) → slice_get xs i ≡ Some d → P i d) → P (length xs) y
    → (i : ℕ) (d : D) → slice_get (xs ++ y ∷ []) i ≡ Some d → P i d
holds_more P [] y h last zero d e = subst (P 0) (same_Some y d e) last
holds_more P [] y h last (suc i) d e = absurd (none-some d e)
holds_more P (x ∷ xs) y h last zero d e = h 0 d e
holds_more P (x ∷ xs) y h last (suc i) d e = holds_more (λ n. P (suc n)) xs y (λ n. h (suc n)) last i d e
