-- Laws of lists of which each stands beside one of another list.
use Rattle.std.proofs.Common.{◌≡◌, ℕ, zero, suc, ◌<◌, List, [], ◌∷◌, length, set, get_or, slice_get, Option, Some, None, IfSome, refl, sym, subst, arith}
use Rattle.std.specs.List.{AllZip}
use Rattle.std.proofs.lemmas.Option.{slice_get-get_or, slice_get_within, get_or_from_slice_get}

-- each beside itself
pub zip_itself : {A : Type 0} (Q : A → A → Type 0) → ((x : A) → Q x x) → (xs : List A) → AllZip Q xs xs
zip_itself Q itself [] = tt
zip_itself Q itself (x ∷ xs) = (itself x, zip_itself Q itself xs)

-- one of them is replaced
pub zip_set : {A B : Type 0} (Q : A → B → Type 0) (xs : List A) (ys : List B) (k : ℕ) (y : B) (d : A) → AllZip Q xs ys → (k < length xs → Q (get_or xs k d) y) → AllZip Q xs (set ys k y)
zip_set Q [] [] k y d all new = all
zip_set Q [] (b ∷ ys) k y d all new = absurd all
zip_set Q (a ∷ xs) [] k y d all new = all
zip_set Q (a ∷ xs) (b ∷ ys) zero y d all new = (new (omega arith), all.1)
zip_set Q (a ∷ xs) (b ∷ ys) (suc k) y d all new = (all.0, zip_set Q xs ys k y d all.1 (λ h. new (omega (arith, h))))

-- the same, by what stands there
pub zip_put : {A B : Type 0} (Q : A → B → Type 0) (xs : List A) (ys : List B) (k : ℕ) (y : B) (d : A) → AllZip Q xs ys → IfSome (slice_get xs k) (λ x. Q x y) → AllZip Q xs (set ys k y)
zip_put Q xs ys k y d all new = zip_set Q xs ys k y d all (λ within. subst (λ o. IfSome o (λ x. Q x y)) (slice_get-get_or xs k d within) new)

zip_get : {A B : Type 0} (Q : A → B → Type 0) (xs : List A) (ys : List B) (k : ℕ) (y : B) (d : A) → AllZip Q xs ys → k < length xs → y ≡ get_or ys k y → Q (get_or xs k d) y
zip_get Q [] ys k y d all within is = absurd (omega (arith, within))
zip_get Q (a ∷ xs) [] k y d all within is = absurd all
zip_get Q (a ∷ xs) (b ∷ ys) zero y d all within is = subst (λ z. Q a z) (sym is) all.0
zip_get Q (a ∷ xs) (b ∷ ys) (suc k) y d all within is = zip_get Q xs ys k y d all.1 (omega (arith, within)) is

-- what is known of one of them, by what stands beside it
pub zip_there : {A B : Type 0} (Q : A → B → Type 0) (xs : List A) (ys : List B) (k : ℕ) (y : B) → AllZip Q xs ys → y ≡ get_or ys k y → IfSome (slice_get xs k) (λ x. Q x y)
zip_there {A = A} Q xs ys k y all is = by_each (slice_get xs k) refl
  where
    by_each : (o : Option A) → slice_get xs k ≡ o → IfSome o (λ x. Q x y)
    by_each None e = tt
    by_each (Some x) e = subst (λ z. Q z y) (get_or_from_slice_get xs k x x e) (zip_get Q xs ys k y x all (slice_get_within xs k x e) is)

-- what follows from each
pub zip_weaker : {A B : Type 0} (P Q : A → B → Type 0) → ((a : A) (b : B) → P a b → Q a b) → (xs : List A) (ys : List B) → AllZip P xs ys → AllZip Q xs ys
zip_weaker P Q weaker [] [] all = tt
zip_weaker P Q weaker [] (y ∷ ys) all = absurd all
zip_weaker P Q weaker (x ∷ xs) [] all = all
zip_weaker P Q weaker (x ∷ xs) (y ∷ ys) all = (weaker x y all.0, zip_weaker P Q weaker xs ys all.1)
