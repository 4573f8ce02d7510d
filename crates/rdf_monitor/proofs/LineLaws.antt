-- A line that is made word by word.
use Rattle.std.proofs.Common.{◌≡◌, ℕ, suc, ◌+◌, List, [], ◌∷◌, ◌++◌, length, take, refl, sym, ap, ◌∙◌, append_assoc, add-zero, zero-add, arith}
use Rattle.std.proofs.lemmas.List.{append-nil}
use Rattle.std.proofs.lemmas.List.Concat.{flat_map-append}
use Rattle.std.specs.List.{flat_map, enumerate_from}
use Rattle.rdf_core.specs.declared.replies.VolInfo.{VolInfo}
use Rattle.rdf_core.specs.Text.{volume_line}
use Rattle.plan_lang.specs.Words.{spaced, text_line}
use Rattle.rdf_monitor.specs.Words.{with_words}

-- words behind a line, where the line has a front
front_stays : (a b : List ℕ) (words : List (List ℕ)) → with_words (a ++ b) words ≡ a ++ with_words b words
front_stays a b [] = refl
front_stays a b (w ∷ words) = ap (λ l. with_words l words) (append_assoc a b (32 ∷ w)) ∙ front_stays a (b ++ 32 ∷ w) words

pub spaced_is : (w : List ℕ) (words : List (List ℕ)) → spaced (w ∷ words) ≡ with_words w words
spaced_is w [] = refl
spaced_is w (v ∷ words) = ap (λ l. w ++ 32 ∷ l) (spaced_is v words) ∙ sym (front_stays w (32 ∷ v) words ∙ ap (λ l. w ++ l) (front_stays (32 ∷ []) v words))

-- a line of words is its first word, with the others behind it, and the byte that ends it
pub text_line_is : (w : List ℕ) (words : List (List ℕ)) → text_line (w ∷ words) ≡ with_words w words ++ 10 ∷ []
text_line_is w words = ap (λ l. l ++ 10 ∷ []) (spaced_is w words)

-- words behind words
pub with_words-append : (line : List ℕ) (xs ys : List (List ℕ)) → with_words line (xs ++ ys) ≡ with_words (with_words line xs) ys
with_words-append line [] ys = refl
with_words-append line (x ∷ xs) ys = with_words-append (line ++ 32 ∷ x) xs ys

-- a line that is made behind other lines
pub line_behind : (old w : List ℕ) (words : List (List ℕ)) → with_words (old ++ w) words ++ 10 ∷ [] ≡ old ++ text_line (w ∷ words)
line_behind old w words = ap (λ l. l ++ 10 ∷ []) (front_stays old w words) ∙ append_assoc old (with_words w words) (10 ∷ []) ∙ ap (λ l. old ++ l) (sym (text_line_is w words))

-- one volume more
pub enumerate_from-push : {X : Type 0} (n : ℕ) (xs : List X) (x : X) → enumerate_from n (xs ++ x ∷ []) ≡ enumerate_from n xs ++ (n + length xs, x) ∷ []
enumerate_from-push n [] x = ap (λ i. (i, x) ∷ []) (sym (add-zero n))
enumerate_from-push n (y ∷ xs) x = ap (λ ps. (n, y) ∷ ps) (enumerate_from-push (n + 1) xs x ∙ ap (λ i. enumerate_from (n + 1) xs ++ (i, x) ∷ []) (shift n (length xs)))
  where
    shift : (a b : ℕ) → a + 1 + b ≡ a + suc b
    shift a b = omega arith

pub volumes_more : (volumes : List VolInfo) (i : ℕ) (v : VolInfo) → take (i + 1) volumes ≡ take i volumes ++ v ∷ [] → length (take i volumes) ≡ i →
    flat_map volume_line (enumerate_from 0 (take (i + 1) volumes)) ≡ flat_map volume_line (enumerate_from 0 (take i volumes)) ++ volume_line (i, v)
volumes_more volumes i v e l =
    ap (λ vs. flat_map volume_line (enumerate_from 0 vs)) e ∙ ap (flat_map volume_line) (enumerate_from-push 0 (take i volumes) v)
    ∙ flat_map-append volume_line (enumerate_from 0 (take i volumes)) ((0 + length (take i volumes), v) ∷ [])
    ∙ ap (λ t. flat_map volume_line (enumerate_from 0 (take i volumes)) ++ t) (append-nil (volume_line (0 + length (take i volumes), v)))
    ∙ ap (λ n. flat_map volume_line (enumerate_from 0 (take i volumes)) ++ volume_line (n, v)) (zero-add (length (take i volumes)) ∙ l)
