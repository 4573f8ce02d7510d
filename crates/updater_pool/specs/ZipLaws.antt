-- Two lists, each with one more at its end.
use Rattle.std.proofs.Common.{◌≡◌, List, [], ◌∷◌, ◌++◌, subst, sym}
use Rattle.std.specs.List.{AllZip}

zip_more : {A B : Type 0} (R : A → B → Type 0) (xs : List A) (ys : List B) (x : A) (y : B) → AllZip R xs ys → R x y → AllZip R (xs ++ x ∷ []) (ys ++ y ∷ [])
zip_more R [] [] x y h r = (r, tt)
zip_more R [] (b ∷ ys) x y h r = absurd h
zip_more R (a ∷ xs) [] x y h r = absurd h
zip_more R (a ∷ xs) (b ∷ ys) x y h r = (h.0, zip_more R xs ys x y h.1 r)

-- one more was put behind each
pub zip_behind : {A B : Type 0} (R : A → B → Type 0) (vs xs : List A) (ws ys : List B) (x : A) (y : B) → vs ≡ xs ++ x ∷ [] → ws ≡ ys ++ y ∷ [] → AllZip R xs ys → R x y → AllZip R vs ws
zip_behind R vs xs ws ys x y e f all r = subst (λ l. AllZip R l ws) (sym e) (subst (λ l. AllZip R (xs ++ x ∷ []) l) (sym f) (zip_more R xs ys x y all r))
