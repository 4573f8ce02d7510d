-- Words with a space in front of each.
use Rattle.std.proofs.Common.{◌≡◌, ℕ, ◌≤◌, List, [], ◌∷◌, ◌++◌, Result, OnOk, length, take, map, refl, sym, ap, ◌∙◌, append_assoc}
use Rattle.std.specs.List.{flat_map}
use Rattle.std.proofs.lemmas.List.{append-nil, take_all}
use Rattle.std.proofs.lemmas.Result.{on_ok_weaker}
use Rattle.plan_lang.specs.Words.{spaced, text_line}

-- words with a space between them are the first, and the others with a space in front of each
pub spaced-map : {X : Type 0} (f : X → List ℕ) (word : List ℕ) (xs : List X) → spaced (word ∷ map f xs) ≡ word ++ flat_map (λ x. 32 ∷ f x) xs
spaced-map f word [] = sym (append-nil word)
spaced-map f word (x ∷ xs) = ap (λ (w : List ℕ). word ++ 32 ∷ w) (spaced-map f (f x) xs)

-- the same of a line
pub line-map : {X : Type 0} (f : X → List ℕ) (word : List ℕ) (xs : List X) → text_line (word ∷ map f xs) ≡ word ++ (flat_map (λ x. 32 ∷ f x) xs ++ 10 ∷ [])
line-map f word xs = ap (λ (w : List ℕ). w ++ 10 ∷ []) (spaced-map f word xs) ∙ append_assoc word (flat_map (λ x. 32 ∷ f x) xs) (10 ∷ [])

-- the texts of lines, one after another
pub texts-map : {X : Type 0} (f : X → List (List ℕ)) (xs : List X) → flat_map text_line (map f xs) ≡ flat_map (λ x. text_line (f x)) xs
texts-map f [] = refl
texts-map f (x ∷ xs) = ap (λ (w : List ℕ). text_line (f x) ++ w) (texts-map f xs)

-- a line is written once all words of a list are, and the byte that ends it
pub line-done : {X T E : Type 0} (f : X → List ℕ) (word : List ℕ) (xs : List X) (i : ℕ) (old mid now : List ℕ) (r : Result T E) → length xs ≤ i
    → mid ≡ old ++ (word ++ flat_map (λ x. 32 ∷ f x) (take i xs)) → OnOk r (now ≡ mid ++ 10 ∷ []) → OnOk r (now ≡ old ++ text_line (word ∷ map f xs))
line-done f word xs i old mid now r past e h = on_ok_weaker r (λ w.
    w ∙ ap (λ (m : List ℕ). m ++ 10 ∷ []) (e ∙ ap (λ l. old ++ (word ++ flat_map (λ x. 32 ∷ f x) l)) (take_all i xs past))
    ∙ append_assoc old (word ++ flat_map (λ x. 32 ∷ f x) xs) (10 ∷ []) ∙ ap (λ (m : List ℕ). old ++ m) (append_assoc word (flat_map (λ x. 32 ∷ f x) xs) (10 ∷ []) ∙ sym (line-map f word xs))) h

-- all lines are written
pub texts-done : {X : Type 0} (f : X → List (List ℕ)) (xs : List X) (i : ℕ) (old now : List ℕ) → length xs ≤ i → now ≡ old ++ flat_map (λ x. text_line (f x)) (take i xs) → now ≡ old ++ flat_map text_line (map f xs)
texts-done f xs i old now past e = e ∙ ap (λ l. old ++ flat_map (λ x. text_line (f x)) l) (take_all i xs past) ∙ ap (λ (m : List ℕ). old ++ m) (sym (texts-map f xs))

-- three texts, one after another
pub three-done : {T E : Type 0} (old a b d first second now : List ℕ) (r : Result T E) → first ≡ old ++ a → second ≡ first ++ b → OnOk r (now ≡ second ++ d) → OnOk r (now ≡ old ++ (a ++ (b ++ (d ++ []))))
three-done old a b d first second now r e f h = on_ok_weaker r (λ w.
    w ∙ ap (λ (m : List ℕ). m ++ d) (f ∙ ap (λ (m : List ℕ). m ++ b) e) ∙ append_assoc (old ++ a) b d ∙ append_assoc old a (b ++ d)
    ∙ ap (λ (m : List ℕ). old ++ (a ++ (b ++ m))) (sym (append-nil d))) h
