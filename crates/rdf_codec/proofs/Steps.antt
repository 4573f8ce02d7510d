-- One element more of a list.
use Rattle.std.proofs.Common.{◌≡◌, ℕ, ◌+◌, ◌<◌, List, [], ◌∷◌, ◌++◌, length, get_or, take, Result, Ok, Err, ap, sym, ◌∙◌, subst, append_assoc}
use Rattle.std.specs.Prelude.{OnOk}
use Rattle.std.specs.List.{All, flat_map}
use Rattle.std.proofs.lemmas.List.{take_more, flat_map_more}
use Rattle.std.proofs.lemmas.List.Elements.{All-push}

pub next_taken : {X : Type 0} (xs : List X) (i : ℕ) (x : X) → i < length xs → x ≡ get_or xs i x → take (i + 1) xs ≡ take i xs ++ x ∷ []
next_taken {X = X} xs i x lt is = take_more xs i x lt ∙ ap (λ (y : X). take i xs ++ y ∷ []) (sym is)

pub All-next : {X : Type 0} (P : X → Type 0) (xs : List X) (i : ℕ) (x : X) → i < length xs → x ≡ get_or xs i x → All P (take i xs) → P x → All P (take (i + 1) xs)
All-next {X = X} P xs i x lt is all here = subst (All P) (sym (next_taken xs i x lt is)) (All-push P (take i xs) x all here)

-- what was written behind the first elements
pub spelled_next : {X : Type 0} (f : X → List ℕ) (before out new : List ℕ) (xs : List X) (i : ℕ) (x : X) → i < length xs → x ≡ get_or xs i x
    → out ≡ before ++ flat_map f (take i xs) → new ≡ out ++ f x → new ≡ before ++ flat_map f (take (i + 1) xs)
spelled_next f before out new xs i x lt is so_far e =
    e ∙ ap (λ (y : List ℕ). y ++ f x) so_far ∙ flat_map_more f before (take i xs) x ∙ ap (λ ys. before ++ flat_map f ys) (sym (next_taken xs i x lt is))

-- three parts that were appended, the last one unless memory ran out
pub three_written : {E : Type 0} (r : Result (Unit {0}) E) (old a b c first second new : List ℕ) → first ≡ old ++ a → second ≡ first ++ b → OnOk r (new ≡ second ++ c) → OnOk r (new ≡ old ++ (a ++ b ++ c))
three_written (Ok x) old a b c first second new p q e = e ∙ rw (q, p) (append_assoc (old ++ a) b c ∙ append_assoc old a (b ++ c) ∙ ap (λ t. old ++ t) (sym (append_assoc a b c)))
three_written (Err d) old a b c first second new p q e = tt
