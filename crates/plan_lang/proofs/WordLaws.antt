-- How a word is cut from what follows it.
use Rattle.std.proofs.Common.{◌≡◌, ◌≢◌, ℕ, suc, ◌+◌, Bool, true, false, not, cond, ltb, nat_eq, ◌==◌, List, [], ◌∷◌, ◌++◌, length, take, drop, Option, Some, None, refl, sym, ap, subst, ◌∙◌, arith}
use Rattle.std.specs.Prelude.{position}
use Rattle.std.specs.Option.{option_map}
use Rattle.std.specs.List.{position_or_len}
use Rattle.std.proofs.lemmas.Bool.{eqb-true, eqb-false, eq-eqb, ne_eqb}
use Rattle.std.specs.Cmp.Lexicographic.{pointwise}
use Rattle.std.proofs.lemmas.Slice.Eq.{bytes_eq-Decides}
use Rattle.std.proofs.lemmas.List.{take_at, drop_at, take-append-drop}
use Rattle.plan_lang.specs.Words.{word_at, with_byte, IsWithout, behind}
use Rattle.std.proofs.lemmas.Option.{same_Some}

abbrev cut_at : List ℕ → ℕ → List ℕ × List ℕ
cut_at bytes i = (take i bytes, drop (i + 1) bytes)

-- a position cuts the list at that byte
abbrev where_is : ℕ → List ℕ → ℕ
where_is end bytes = position_or_len (λ b. b == end) bytes

ltb-suc : (p l : ℕ) → ltb (1 + p) (suc l) ≡ ltb p l
ltb-suc p l = grind arith

below-suc : (l : ℕ) → ltb 0 (suc l) ≡ true
below-suc l = grind arith

one-more : (b p : ℕ) (bytes : List ℕ) → cut_at (b ∷ bytes) (1 + p) ≡ with_byte b (cut_at bytes p)
one-more b p bytes = let e : 1 + p ≡ suc p = omega arith in rw e (let f : suc p + 1 ≡ suc (p + 1) = omega arith in rw f refl)

mapped-cond : (t : Bool) (b p : ℕ) (bytes : List ℕ) →
    option_map (cut_at (b ∷ bytes)) (cond t (Some (1 + p)) None) ≡ option_map (with_byte b) (option_map (cut_at bytes) (cond t (Some p) None))
mapped-cond true b p bytes = ap (λ (x : List ℕ × List ℕ). Some x) (one-more b p bytes)
mapped-cond false b p bytes = refl

pub word_at-position : (end : ℕ) (bytes : List ℕ) → word_at end bytes ≡ option_map (λ i. (take i bytes, drop (i + 1) bytes)) (position (λ b. b == end) bytes)
word_at-position end [] = refl
word_at-position end (b ∷ bytes) =
    elim (b == end) as (λ m. cond m (Some ([], bytes)) (option_map (with_byte b) (word_at end bytes))
    ≡ option_map (cut_at (b ∷ bytes)) (cond (ltb (cond (not m) (1 + where_is end bytes) 0) (suc (length bytes))) (Some (cond (not m) (1 + where_is end bytes) 0)) None)) [
      | true ↦ sym (ap (λ t. option_map (cut_at (b ∷ bytes)) (cond t (Some 0) None)) (below-suc (length bytes)))
      | false ↦ ap (option_map (with_byte b)) (word_at-position end bytes)
          ∙ sym (mapped-cond (ltb (where_is end bytes) (length bytes)) b (where_is end bytes) bytes)
          ∙ sym (ap (λ t. option_map (cut_at (b ∷ bytes)) (cond t (Some (1 + where_is end bytes)) None)) (ltb-suc (where_is end bytes) (length bytes)))
    ]

-- a word and the byte behind it stand at the front
pub record Cuts (end : ℕ) (bytes : List ℕ) (found : List ℕ × List ℕ) : Type 0 where
  pub parts : bytes ≡ found.0 ++ end ∷ found.1
  pub without : IsWithout end found.0

abbrev pub CutsOr : ℕ → List ℕ → Option (List ℕ × List ℕ) → Type 0
CutsOr end bytes None = IsWithout end bytes
CutsOr end bytes (Some found) = Cuts end bytes found

cuts_more : (end b : ℕ) (bytes : List ℕ) → b ≢ end → (found : Option (List ℕ × List ℕ)) → CutsOr end bytes found → CutsOr end (b ∷ bytes) (option_map (with_byte b) found)
cuts_more end b bytes ne None h = (ne, h)
cuts_more end b bytes ne (Some found) h = record { parts = ap (λ t. b ∷ t) h.parts; without = (ne, h.without) }

pub word_at-cuts : (end : ℕ) (bytes : List ℕ) → CutsOr end bytes (word_at end bytes)
word_at-cuts end [] = tt
word_at-cuts end (b ∷ bytes) =
    elim (b == end) as (λ m. (b == end) ≡ m → CutsOr end (b ∷ bytes) (cond m (Some ([], bytes)) (option_map (with_byte b) (word_at end bytes)))) [
      | true ↦ λ e. record { parts = ap (λ n. n ∷ bytes) (eqb-true b end e); without = tt }
      | false ↦ λ e. cuts_more end b bytes (eqb-false b end e) (word_at end bytes) (word_at-cuts end bytes)
    ] refl

-- a word is read again, whatever follows it
pub word_again : (end : ℕ) (word rest : List ℕ) → IsWithout end word → word_at end (word ++ end ∷ rest) ≡ Some (word, rest)
word_again end [] rest h = ap (λ t. cond t (Some ([], rest)) (option_map (with_byte end) (word_at end rest))) (eq-eqb end end refl)
word_again end (b ∷ word) rest h =
    ap (λ t. cond t (Some ([], word ++ end ∷ rest)) (option_map (with_byte b) (word_at end (word ++ end ∷ rest)))) (ne_eqb b end h.0)
    ∙ ap (option_map (with_byte b)) (word_again end word rest h.1)

pub word_at-none : (end : ℕ) (bytes : List ℕ) (r : Option ℕ) → r ≡ position (λ b. b == end) bytes → r ≡ None → None ≡ word_at end bytes
word_at-none end bytes r e n = ap (option_map (cut_at bytes)) (sym n ∙ e) ∙ sym (word_at-position end bytes)

pub word_at-some : (end : ℕ) (bytes : List ℕ) (r : Option ℕ) (at : ℕ) → r ≡ position (λ b. b == end) bytes → r ≡ Some at → Some (take at bytes, drop (at + 1) bytes) ≡ word_at end bytes
word_at-some end bytes r at e s = ap (option_map (cut_at bytes)) (sym s ∙ e) ∙ sym (word_at-position end bytes)

pub without : (end : ℕ) (bytes : List ℕ) → None ≡ word_at end bytes → IsWithout end bytes
without end bytes e = subst (CutsOr end bytes) (sym e) (word_at-cuts end bytes)

pub parted : (end : ℕ) (bytes word rest : List ℕ) → Some (word, rest) ≡ word_at end bytes → (bytes ≡ word ++ end ∷ rest) × IsWithout end word
parted end bytes word rest e = let h : Cuts end bytes (word, rest) = subst (CutsOr end bytes) (sym e) (word_at-cuts end bytes) in (h.parts, h.without)

-- what is behind a text that stands in front
pub behind_again : (text rest : List ℕ) → behind text (text ++ rest) ≡ Some rest
behind_again text rest =
    rw (take_at text rest (length text) refl, drop_at text rest (length text) refl) (ap (λ t. cond t (Some rest) None) ((bytes_eq-Decides text text).1 refl))

pub behind_takes : (text bytes rest : List ℕ) → behind text bytes ≡ Some rest → bytes ≡ text ++ rest
behind_takes text bytes rest e =
    elim (pointwise nat_eq (take (length text) bytes) text) as (λ m. pointwise nat_eq (take (length text) bytes) text ≡ m → cond m (Some (drop (length text) bytes)) None ≡ Some rest → bytes ≡ text ++ rest) [
      | true ↦ λ p q. sym (take-append-drop (length text) bytes) ∙ ap (λ t. t ++ drop (length text) bytes) ((bytes_eq-Decides (take (length text) bytes) text).0 p) ∙ ap (λ t. text ++ t) (same_Some _ _ q)
      | false ↦ λ p q. absurd cc
    ] refl e

pub behind_none : (text bytes rest : List ℕ) → None ≡ behind text bytes → bytes ≢ text ++ rest
behind_none text bytes rest e h = let again = behind_again text rest in let both : None ≡ Some rest = e ∙ ap (behind text) h ∙ again in absurd cc
