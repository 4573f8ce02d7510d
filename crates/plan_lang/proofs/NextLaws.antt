-- The lines of a text, and the next one of them that is no comment.
use Rattle.std.proofs.Common.{◌≡◌, ◌≢◌, ℕ, ◌+◌, ◌<◌, true, false, ◌==◌, List, [], ◌∷◌, ◌++◌, length, map, Some, None, Result, Ok, Err, refl, sym, ap, subst, ◌∙◌, append_assoc, arith}
use Rattle.std.specs.List.{AllByRecursion, flat_map, slice_split}
use Rattle.std.proofs.lemmas.Bool.{eqb-true, ne_eqb}
use Rattle.std.proofs.lemmas.List.{nil_from_length}
use Rattle.std.proofs.lemmas.List.Splits.{length-slice_split}
use Rattle.plan_lang.specs.declared.why.BadLine.{BadLine}
use Rattle.plan_lang.specs.Words.{word_at, IsWithout, spaced, text_line, without_empty_end, lines_in, words_in}
use Rattle.plan_lang.specs.Grammar.{checked, Next, next_line}
use Rattle.plan_lang.proofs.PieceLaws.{piece_found, piece_none}
use Rattle.plan_lang.proofs.WordLaws.{word_again}

-- ---- lines

-- the last piece stays the last
with_more : (piece : List ℕ) (pieces : List (List ℕ)) → 0 < length pieces → without_empty_end (piece ∷ pieces) ≡ piece ∷ without_empty_end pieces
with_more piece [] h = absurd (omega arith)
with_more [] (next ∷ pieces) h = refl
with_more (b ∷ piece) (next ∷ pieces) h = refl

pub line_found : (bytes line rest : List ℕ) → Some (line, rest) ≡ word_at 10 bytes → lines_in bytes ≡ line ∷ lines_in rest
unfolding lines_in
line_found bytes line rest e = ap without_empty_end (piece_found 10 bytes line rest e) ∙ with_more line (slice_split (λ b. b == 10) rest) (omega (arith, length-slice_split (λ b. b == 10) rest))

pub line_last : (bytes : List ℕ) → None ≡ word_at 10 bytes → bytes ≢ [] → lines_in bytes ≡ bytes ∷ lines_in []
unfolding lines_in
line_last bytes e some = ap without_empty_end (piece_none 10 bytes e) ∙ alone bytes some
  where
    alone : (line : List ℕ) → line ≢ [] → without_empty_end (line ∷ []) ≡ line ∷ []
    alone [] h = absurd (h refl)
    alone (b ∷ line) h = refl

pub no_lines : (bytes : List ℕ) → bytes ≡ [] → lines_in bytes ≡ []
unfolding lines_in
no_lines bytes e = ap lines_in e

-- the lines of a text that was made of them
pub lines_of_text : (lines : List (List (List ℕ))) → AllByRecursion (λ words. IsWithout 10 (spaced words)) lines → lines_in (flat_map text_line lines) ≡ map spaced lines
lines_of_text [] h = no_lines [] refl
lines_of_text (words ∷ lines) h =
    line_found (text_line words ++ flat_map text_line lines) (spaced words) (flat_map text_line lines) (sym (ap (word_at 10) (append_assoc (spaced words) (10 ∷ []) (flat_map text_line lines)) ∙ word_again 10 (spaced words) (flat_map text_line lines) h.0))
    ∙ ap (λ ls. spaced words ∷ ls) (lines_of_text lines h.1)

-- ---- the next line

pub next_bad : (n : ℕ) (line : List ℕ) (more lines : List (List ℕ)) (e : BadLine) → lines ≡ line ∷ more → checked n line ≡ Err e → next_line n lines ≡ Err e
unfolding next_line
next_bad n line more lines e is h = ap (next_line n) is ∙ rw h refl

pub next_comment : (n : ℕ) (line : List ℕ) (more lines words : List (List ℕ)) → lines ≡ line ∷ more → checked n line ≡ Ok words → (length words == 0) ≡ true → next_line n lines ≡ next_line (n + 1) more
unfolding next_line
next_comment n line more lines words is h none = ap (next_line n) is ∙ rw (h, none) refl

pub next_words : (n : ℕ) (line : List ℕ) (more lines words : List (List ℕ)) → lines ≡ line ∷ more → checked n line ≡ Ok words → (length words == 0) ≡ false
    → next_line n lines ≡ Ok (record { number = n; words = words; after = n + 1; behind = more })
unfolding next_line
next_words n line more lines words is h some = ap (next_line n) is ∙ rw (h, some) refl

pub next_end : (n : ℕ) (lines : List (List ℕ)) → lines ≡ [] → next_line n lines ≡ Ok (record { number = n; words = []; after = n; behind = [] })
unfolding next_line
next_end n lines is = ap (next_line n) is

pub ok_same : {X E : Type 0} (x y : X) → ◌≡◌ {A = Result X E} (Ok x) (Ok y) → x ≡ y
ok_same x y e = cc

pub some_test : (word : List ℕ) (words : List (List ℕ)) → (length (word ∷ words) == 0) ≡ false
some_test word words = ne_eqb (length (word ∷ words)) 0 (λ e. absurd (omega arith))

-- nothing is left of the text
pub at_end : (n : ℕ) (rest : List ℕ) → (length rest == 0) ≡ true → next_line n (lines_in rest) ≡ Ok (record { number = n; words = words_in rest; after = n; behind = lines_in rest })
at_end n rest e =
    let is : rest ≡ [] = nil_from_length rest (eqb-true (length rest) 0 e) in
    subst (λ (r : List ℕ). next_line n (lines_in r) ≡ Ok (record { number = n; words = words_in r; after = n; behind = lines_in r })) (sym is)
    (next_end n (lines_in []) (no_lines [] refl) ∙ ap (λ (ls : List (List ℕ)). let x : Next = record { number = n; words = []; after = n; behind = ls } in Ok x) (sym (no_lines [] refl)))
