-- Lists that loops make.
use Rattle.std.proofs.Common.{◌≡◌, ℕ, ◌+◌, ◌<◌, Bool, false, List, [], ◌∷◌, ◌++◌, length, drop, map, sym, ap, ◌∙◌, append_assoc}
use Rattle.std.proofs.lemmas.List.{drop_more}

-- one element more is made
pushed : {X : Type 0} (all made more rest : List X) (x : X) → all ≡ made ++ x ∷ rest → more ≡ made ++ x ∷ [] → all ≡ more ++ rest
pushed all made more rest x e h = e ∙ sym (append_assoc made (x ∷ []) rest) ∙ ap (λ (l : List _). l ++ rest) (sym h)

-- one flag more that is not set
pub flags_turn : (xs : List ℕ) (i : ℕ) (made more : List Bool) → i < length xs → map (λ _. false) xs ≡ made ++ map (λ _. false) (drop i xs) → more ≡ made ++ false ∷ [] → map (λ _. false) xs ≡ more ++ map (λ _. false) (drop (i + 1) xs)
flags_turn xs i made more within inv h =
    pushed (map (λ _. false) xs) made more (map (λ _. false) (drop (i + 1) xs)) false (inv ∙ ap (λ (l : List ℕ). made ++ map (λ _. false) l) (drop_more xs i 0 within)) h
