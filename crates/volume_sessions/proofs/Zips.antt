-- Two lists, each with its last one taken off.
use Rattle.std.proofs.Common.{◌≡◌, ◌+◌, List, [], ◌∷◌, ◌++◌, map, length, subst, sym, ap, ◌∙◌}
use Rattle.std.specs.List.{All, AllZip, AllByRecursion}
use Rattle.std.proofs.lemmas.List.{length-append}
use Rattle.std.proofs.lemmas.List.Elements.{All-append, All-from_recursion, recursion_from_All}

none_more : {A B : Type 0} (R : A → B → Type 0) (ys : List B) (y : B) → AllZip R [] (ys ++ y ∷ []) → ⊥
none_more R [] y h = h
none_more R (b ∷ ys) y h = h

more_none : {A B : Type 0} (R : A → B → Type 0) (xs : List A) (x : A) → AllZip R (xs ++ x ∷ []) [] → ⊥
more_none R [] x h = h
more_none R (a ∷ xs) x h = h

zip_last : {A B : Type 0} (R : A → B → Type 0) (xs : List A) (ys : List B) (x : A) (y : B) → AllZip R (xs ++ x ∷ []) (ys ++ y ∷ []) → AllZip R xs ys × R x y
zip_last R [] [] x y h = (tt, h.0)
zip_last R [] (b ∷ ys) x y h = absurd (none_more R ys y h.1)
zip_last R (a ∷ xs) [] x y h = absurd (more_none R xs x h.1)
zip_last R (a ∷ xs) (b ∷ ys) x y h = let rest = zip_last R xs ys x y h.1 in ((h.0, rest.0), rest.1)

-- both were taken off
pub zip_taken : {A B : Type 0} (R : A → B → Type 0) (vs xs : List A) (ws ys : List B) (x : A) (y : B) → vs ≡ xs ++ x ∷ [] → ws ≡ ys ++ y ∷ [] → AllZip R vs ws → AllZip R xs ys × R x y
zip_taken R vs xs ws ys x y e f all = zip_last R xs ys x y (subst (λ l. AllZip R l (ys ++ y ∷ [])) e (subst (λ l. AllZip R vs l) f all))

-- what stands beside each, by what stands beside both
pub zip_through : {A B C : Type 0} (P : A → B → Type 0) (Q : B → C → Type 0) (R : A → C → Type 0) → ((a : A) (b : B) (c : C) → P a b → Q b c → R a c) → (xs : List A) (ys : List B) (zs : List C) → AllZip P xs ys → AllZip Q ys zs → AllZip R xs zs
zip_through P Q R both [] [] [] p q = tt
zip_through P Q R both [] [] (z ∷ zs) p q = q
zip_through P Q R both [] (y ∷ ys) zs p q = absurd p
zip_through P Q R both (x ∷ xs) [] zs p q = absurd p
zip_through P Q R both (x ∷ xs) (y ∷ ys) [] p q = q
zip_through P Q R both (x ∷ xs) (y ∷ ys) (z ∷ zs) p q = (both x y z p.0 q.0, zip_through P Q R both xs ys zs p.1 q.1)

-- a list is what another one is by f
pub zip_mapped : {A B C : Type 0} (R : B → C → Type 0) (f : A → B) (xs : List A) (zs : List C) → AllZip (λ a c. R (f a) c) xs zs → AllZip R (map f xs) zs
zip_mapped R f [] [] all = tt
zip_mapped R f [] (z ∷ zs) all = all
zip_mapped R f (x ∷ xs) [] all = all
zip_mapped R f (x ∷ xs) (z ∷ zs) all = (all.0, zip_mapped R f xs zs all.1)

-- and the other way
pub zip_unmapped : {A B C : Type 0} (R : B → C → Type 0) (f : A → B) (xs : List A) (zs : List C) → AllZip R (map f xs) zs → AllZip (λ a c. R (f a) c) xs zs
zip_unmapped R f [] [] all = tt
zip_unmapped R f [] (z ∷ zs) all = all
zip_unmapped R f (x ∷ xs) [] all = all
zip_unmapped R f (x ∷ xs) (z ∷ zs) all = (all.0, zip_unmapped R f xs zs all.1)

each_last : {A : Type 0} (P : A → Type 0) (xs : List A) (x : A) → AllByRecursion P (xs ++ x ∷ []) → AllByRecursion P xs × P x
each_last P [] x all = (tt, all.0)
each_last P (a ∷ xs) x all = let rest = each_last P xs x all.1 in ((all.0, rest.0), rest.1)

-- the last one was taken off
pub all_taken : {A : Type 0} (P : A → Type 0) (vs xs : List A) (x : A) → vs ≡ xs ++ x ∷ [] → All P vs → All P xs × P x
all_taken P vs xs x e all =
    let both = each_last P xs x (recursion_from_All P (xs ++ x ∷ []) (subst (All P) e all)) in
    (All-from_recursion P xs both.0, both.1)

pub one_more : {A : Type 0} (vs xs : List A) (x : A) → vs ≡ xs ++ x ∷ [] → length vs ≡ length xs + 1
one_more vs xs x e = ap length e ∙ length-append xs (x ∷ [])

-- one more was put behind
pub all_behind : {A : Type 0} (P : A → Type 0) (vs xs : List A) (x : A) → vs ≡ xs ++ x ∷ [] → All P xs → P x → All P vs
all_behind P vs xs x e all p = subst (All P) (sym e) (All-append P xs (x ∷ []) all (All-from_recursion P (x ∷ []) (p, tt)))
