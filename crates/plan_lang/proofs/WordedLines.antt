-- Lines that may stand in a plan with their words, and the next one that has any.
use Rattle.std.proofs.Common.{◌≡◌, ℕ, ◌+◌, ◌-◌, ◌≤◌, Bool, true, false, ◌&&◌, ◌||◌, cond, nat_lt, ◌==◌, List, [], ◌∷◌, length, Result, Ok, refl, sym, ap, subst, ◌∙◌, arith}
use Rattle.std.specs.List.{list_all, slice_split, onto_first}
use Rattle.std.proofs.lemmas.Bool.{and_parts, and_from}
use Rattle.std.proofs.lemmas.Bool.Decides.{nat_tests}
use Rattle.plan_lang.specs.declared.why.BadLine.{BadLine}
use Rattle.plan_lang.specs.declared.why.PlanWhy.TheVariants.{NotAscii, TooManyLines}
use Rattle.plan_lang.specs.LineText.{is_printed}
use Rattle.plan_lang.specs.Words.{without_empty_end, lines_in, words_of}
use Rattle.plan_lang.specs.Grammar.{bad, checked, Next, next_line}
use Rattle.plan_lang.specs.Written.{may_stand, has_words, worded}
use Rattle.plan_lang.proofs.WordReading.{bind_ok}
use Rattle.plan_lang.proofs.NextLaws.{ok_same, some_test, next_comment, next_words}

-- ---- bytes that may stand, line by line

onto_printed : (p : ℕ → Bool) (b : ℕ) (pieces : List (List ℕ)) → list_all (list_all p) (onto_first b pieces) ≡ (p b && list_all (list_all p) pieces)
onto_printed p b [] =
    elim (p b) as (λ t. ((t && true) && true) ≡ (t && true)) [
      | true ↦ refl
      | false ↦ refl
    ]
onto_printed p b (piece ∷ pieces) =
    elim (p b) as (λ t. ((t && list_all p piece) && list_all (list_all p) pieces) ≡ (t && (list_all p piece && list_all (list_all p) pieces))) [
      | true ↦ refl
      | false ↦ refl
    ]

split_printed : (p : ℕ → Bool) (bytes : List ℕ) → list_all (list_all p) (slice_split (λ b. b == 10) bytes) ≡ list_all (λ b. b == 10 || p b) bytes
split_printed p [] = refl
split_printed p (b ∷ bytes) =
    let pieces = slice_split (λ b. b == 10) bytes in
    elim (b == 10) as (λ t. list_all (list_all p) (cond t ([] ∷ pieces) (onto_first b pieces)) ≡ ((t || p b) && list_all (λ b. b == 10 || p b) bytes)) [
      | true ↦ split_printed p bytes
      | false ↦ onto_printed p b pieces ∙ ap (λ t. p b && t) (split_printed p bytes)
    ]

ended_printed : (p : ℕ → Bool) (pieces : List (List ℕ)) → list_all (list_all p) (without_empty_end pieces) ≡ list_all (list_all p) pieces
ended_printed p [] = refl
ended_printed p ([] ∷ []) = refl
ended_printed p ([] ∷ piece ∷ pieces) = ended_printed p (piece ∷ pieces)
ended_printed p ((b ∷ bytes) ∷ pieces) = ap (λ t. list_all p (b ∷ bytes) && t) (ended_printed p pieces)

pub lines_printed : (bytes : List ℕ) → list_all (list_all is_printed) (lines_in bytes) ≡ list_all may_stand bytes
unfolding lines_in
lines_printed bytes = ended_printed is_printed (slice_split (λ b. b == 10) bytes) ∙ split_printed is_printed bytes

-- ---- lines with their words

-- the lines from this number on may stand in a plan, and have these words
pub record Stand (n : ℕ) (lines : List (List ℕ)) (said : List (List (List ℕ))) : Type 0 where
  pub few : length lines ≤ 20001 - n
  pub printed : list_all (list_all is_printed) lines ≡ true
  pub words : worded lines ≡ said

pub end_stands : (n : ℕ) → Stand n [] []
end_stands n = record { few = omega arith; printed = refl; words = refl }

-- a line of this number may stand, and has these words
record IsChecked (n : ℕ) (line : List ℕ) (words : List (List ℕ)) : Type 0 where
  few : n ≤ 20000
  printed : list_all is_printed line ≡ true
  are : words_of line ≡ words

checked_takes : (n : ℕ) (line : List ℕ) (words : List (List ℕ)) → checked n line ≡ Ok words → IsChecked n line words
unfolding checked
checked_takes n line words e = by_few (nat_lt 20000 n) refl e
  where
    few : nat_lt 20000 n ≡ false → n ≤ 20000
    few t = grind (arith, nat_tests)

    by_printed : (b : Bool) → list_all is_printed line ≡ b → n ≤ 20000 → cond b (Ok (words_of line)) (bad n NotAscii) ≡ Ok words → IsChecked n line words
    by_printed true is low q = record { few = low; printed = is; are = ok_same (words_of line) words q }
    by_printed false is low q = absurd cc

    by_few : (b : Bool) → nat_lt 20000 n ≡ b → cond b (bad n TooManyLines) (cond (list_all is_printed line) (Ok (words_of line)) (bad n NotAscii)) ≡ Ok words → IsChecked n line words
    by_few true t q = absurd cc
    by_few false t q = by_printed (list_all is_printed line) refl (few t) q

-- the words of a line in front of those behind it, if it has any
abbrev pub in_front : List (List ℕ) → List (List (List ℕ)) → List (List (List ℕ))
in_front words said = cond (has_words words) (words ∷ said) said

pub stand_more : (n : ℕ) (line : List ℕ) (lines words : List (List ℕ)) (said : List (List (List ℕ))) → checked n line ≡ Ok words → Stand (n + 1) lines said → Stand n (line ∷ lines) (in_front words said)
stand_more n line lines words said e s =
    let c = checked_takes n line words e in
    record {
      few = let f = s.few in let low = c.few in omega arith;
      printed = and_from (list_all is_printed line) (list_all (list_all is_printed) lines) c.printed s.printed;
      words = ap (λ ws. in_front ws (worded lines)) c.are ∙ ap (in_front words) s.words;
    }

pub stand_less : (n : ℕ) (line : List ℕ) (lines : List (List ℕ)) (said : List (List (List ℕ))) → Stand n (line ∷ lines) said → (checked n line ≡ Ok (words_of line)) × Stand (n + 1) lines (worded lines)
unfolding checked
stand_less n line lines said s =
    let f = s.few in
    let low : n ≤ 20000 = omega arith in
    let t : nat_lt 20000 n ≡ false = grind (arith, nat_tests) in
    let p = and_parts (list_all is_printed line) (list_all (list_all is_printed) lines) s.printed in
    (rw (t, p.0) refl, record { few = omega arith; printed = p.1; words = refl })

-- ---- the next line that has words

-- the lines say these words, and then what the lines behind say
abbrev pub Says : ℕ → List (List ℕ) → List (List ℕ) → ℕ → List (List ℕ) → Type 0
Says n lines words after behind = (said : List (List (List ℕ))) → Stand after behind said → Stand n lines (words ∷ said)

found_says : (n : ℕ) (line : List ℕ) (lines : List (List ℕ)) (x : Next) (word : List ℕ) (words found : List (List ℕ)) → checked n line ≡ Ok found
    → (next_line (n + 1) lines ≡ Ok x → x.words ≡ word ∷ words → Says (n + 1) lines (word ∷ words) x.after x.behind)
    → cond (length found == 0) (next_line (n + 1) lines) (Ok (record { number = n; words = found; after = n + 1; behind = lines })) ≡ Ok x → x.words ≡ word ∷ words
    → Says n (line ∷ lines) (word ∷ words) x.after x.behind
found_says n line lines x word words [] h later e is = λ said s. stand_more n line lines [] ((word ∷ words) ∷ said) h (later e is said s)
found_says n line lines x word words (w ∷ ws) h later e is =
    let here : Next = record { number = n; words = w ∷ ws; after = n + 1; behind = lines } in
    let same : here ≡ x = ok_same here x (ap (λ b. let r : Result Next BadLine = cond b (next_line (n + 1) lines) (Ok here) in r) (sym (some_test w ws)) ∙ e) in
    subst (λ (y : Next). y.words ≡ word ∷ words → Says n (line ∷ lines) (word ∷ words) y.after y.behind) same
    (λ are said s. subst (λ (v : List (List ℕ)). Stand n (line ∷ lines) (v ∷ said)) are (stand_more n line lines (w ∷ ws) said h s)) is

pub next_says : (n : ℕ) (lines : List (List ℕ)) (x : Next) (word : List ℕ) (words : List (List ℕ)) → next_line n lines ≡ Ok x → x.words ≡ word ∷ words → Says n lines (word ∷ words) x.after x.behind
unfolding next_line
next_says n [] x word words e is =
    absurd (let none : [] ≡ x.words = ap (λ (y : Next). y.words) (ok_same (record { number = n; words = []; after = n; behind = [] }) x e) in let no : [] ≡ word ∷ words = none ∙ is in cc)
next_says n (line ∷ lines) x word words e is =
    let c = bind_ok (checked n line) _ x e in
    found_says n line lines x word words c.0 c.1 (next_says (n + 1) lines x word words) c.2 is

-- what is shown of the next line, if it has these words
abbrev pub Shows : Type 0 → ℕ → List (List ℕ) → List (List ℕ) → List (List (List ℕ)) → Type 0
Shows P n lines words said = (number after : ℕ) (behind : List (List ℕ)) → next_line n lines ≡ Ok (record { number = number; words = words; after = after; behind = behind }) → Stand after behind said → P

found_again : (P : Type 0) (n : ℕ) (line : List ℕ) (lines : List (List ℕ)) (word : List ℕ) (words : List (List ℕ)) (said : List (List (List ℕ))) (found : List (List ℕ)) → checked n line ≡ Ok found
    → Stand (n + 1) lines (worded lines) → in_front found (worded lines) ≡ (word ∷ words) ∷ said
    → (Stand (n + 1) lines ((word ∷ words) ∷ said) → Shows P (n + 1) lines (word ∷ words) said → P) → Shows P n (line ∷ lines) (word ∷ words) said → P
found_again P n line lines word words said [] h s e later shown =
    later (subst (Stand (n + 1) lines) e s) (λ number after behind next r. shown number after behind (next_comment n line lines (line ∷ lines) [] refl h refl ∙ next) r)
found_again P n line lines word words said (w ∷ ws) h s e later shown =
    let first : w ∷ ws ≡ word ∷ words = cc in
    let rest : worded lines ≡ said = cc in
    shown n (n + 1) lines (next_words n line lines (line ∷ lines) (word ∷ words) refl (h ∙ ap (λ v. Ok v) first) (some_test word words)) (subst (Stand (n + 1) lines) rest s)

pub next_again : (P : Type 0) (n : ℕ) (lines : List (List ℕ)) (word : List ℕ) (words : List (List ℕ)) (said : List (List (List ℕ))) → Stand n lines ((word ∷ words) ∷ said) → Shows P n lines (word ∷ words) said → P
next_again P n [] word words said s shown = absurd (let no : [] ≡ (word ∷ words) ∷ said = s.words in cc)
next_again P n (line ∷ lines) word words said s shown =
    let t = stand_less n line lines ((word ∷ words) ∷ said) s in
    found_again P n line lines word words said (words_of line) t.0 t.1 s.words (next_again P (n + 1) lines word words said) shown
