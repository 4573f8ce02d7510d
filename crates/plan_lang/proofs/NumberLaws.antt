-- Words that are the texts of numbers.
use Rattle.std.proofs.Common.{◌≡◌, ◌≢◌, ℕ, ◌^◌, ◌<◌, Bool, true, false, not, ◌&&◌, cond, nat_lt, List, length, get_or, Option, Some, None, IfSome, IfNone, Result, Ok, Err, inl, inr, ◌==◌, refl, sym, ap, ◌∙◌, arith, rules}
use Rattle.std.specs.Prelude.{decimal}
use Rattle.std.specs.Str.{IsUtf8}
use Rattle.std.specs.Str.Parse.{ParsesUnsigned}
use Rattle.std.specs.Result.{OkIff, result_ok}
use Rattle.std.proofs.lemmas.Str.Parse.{IsNumeralModel, numerals_by_fold, parse_digits}
use Rattle.std.proofs.lemmas.Fmt.{decimal_digit, digits_decimal, digits_value-decimal, decimal_nonempty, first_decimal, decimal-digits_value, IsAscii-from_digits}
use Rattle.std.proofs.lemmas.Bool.{not-true, not_from_false, and_parts, and_from, and_left, and_cases, cases_Bool, cases_lt, cond-true, cond-false, eqb-false, ne_eqb, ltb-true, lt-ltb, ltb-false}
use Rattle.std.proofs.lemmas.Str.{IsUtf8-from_ascii}
use Rattle.plan_lang.specs.Numbers.{is_numeral, has_leading_zero, value_after, number_in, are_digits}
use Rattle.std.proofs.lemmas.Option.{same_Some}

pub own : IsNumeralModel (λ ds. are_digits ds ≡ true) (value_after 0)
own = numerals_by_fold _ (search rules) value_after (search rules)

pub record IsNumeral (word : List ℕ) : Type 0 where
  pub some : 0 < length word
  pub digits : are_digits word ≡ true
  pub no_zero : has_leading_zero word ≡ false

pub numeral_is : (word : List ℕ) → is_numeral word ≡ true → IsNumeral word
numeral_is word e =
    let p = and_parts (nat_lt 0 (length word)) (not (has_leading_zero word) && are_digits word) e in
    let q = and_parts (not (has_leading_zero word)) (are_digits word) p.1 in
    record { some = ltb-true 0 (length word) p.0; digits = q.1; no_zero = not-true (has_leading_zero word) q.0 }

pub digits-utf8 : (word : List ℕ) → is_numeral word ≡ true → IsUtf8 word
digits-utf8 word e = IsUtf8-from_ascii word (IsAscii-from_digits word (own.to word (numeral_is word e).digits))

kept_if_small : {E : Type 0} (r : Result ℕ E) (A : Type 0) (v : ℕ) → A → OkIff r (A × (v < 2 ^ 32)) v → result_ok r ≡ cond (nat_lt v (2 ^ 32)) (Some v) None
kept_if_small (Ok x) A v a h = ap (λ n. Some n) h.1 ∙ sym (cond-true (nat_lt v (2 ^ 32)) (Some v) None (lt-ltb v (2 ^ 32) h.0.1))
kept_if_small (Err e) A v a h =
    elim (cases_Bool (nat_lt v (2 ^ 32))) [
      | inl t ↦ absurd (h (a, ltb-true v (2 ^ 32) t))
      | inr f ↦ sym (cond-false (nat_lt v (2 ^ 32)) (Some v) None f)
    ]

-- what `parse` gives of a numeral is its number
pub parsed : {E : Type 0} (word : List ℕ) (r : Result ℕ E) → is_numeral word ≡ true → ParsesUnsigned 32 10 word r → result_ok r ≡ number_in word
parsed word r e h =
    let n = numeral_is word e in
    kept_if_small r (0 < length word) (value_after 0 word) n.some (parse_digits own 32 word r h n.digits)
    ∙ sym (cond-true (is_numeral word) (cond (nat_lt (value_after 0 word) (2 ^ 32)) (Some (value_after 0 word)) None) None e)

decimal-no_zero : (n : ℕ) → n < 2 ^ 64 → has_leading_zero (decimal n) ≡ false
decimal-no_zero n lt =
    elim (cases_lt 0 n) [
      | inl above ↦ and_left (get_or (decimal n) 0 0 == 48) (nat_lt 1 (length (decimal n))) (ne_eqb (get_or (decimal n) 0 0) 48 (λ e. omega (arith, first_decimal n above lt)))
      | inr zero ↦ let none : n ≡ 0 = omega arith in ap has_leading_zero (ap decimal none ∙ decimal_digit 0 (omega arith))
    ]

decimal-numeral : (n : ℕ) → n < 2 ^ 64 → is_numeral (decimal n) ≡ true
decimal-numeral n lt =
    and_from (nat_lt 0 (length (decimal n))) (not (has_leading_zero (decimal n)) && are_digits (decimal n)) (lt-ltb 0 (length (decimal n)) (decimal_nonempty n lt))
    (and_from (not (has_leading_zero (decimal n))) (are_digits (decimal n)) (not_from_false (has_leading_zero (decimal n)) (decimal-no_zero n lt)) (digits_decimal own n lt))

-- a number's text is a numeral, of that number
pub number_again : (n : ℕ) → n < 2 ^ 32 → number_in (decimal n) ≡ Some n
number_again n lt =
    let wide : n < 2 ^ 64 = omega arith in
    cond-true (is_numeral (decimal n)) (cond (nat_lt (value_after 0 (decimal n)) (2 ^ 32)) (Some (value_after 0 (decimal n))) None) None (decimal-numeral n wide)
    ∙ ap (λ v. cond (nat_lt v (2 ^ 32)) (Some v) None) (digits_value-decimal own n wide)
    ∙ cond-true (nat_lt n (2 ^ 32)) (Some n) None (lt-ltb n (2 ^ 32) lt)

one_digit : (word : List ℕ) → IsNumeral word → get_or word 0 0 ≡ 48 → length word ≡ 1
one_digit word h e =
    elim (and_cases (get_or word 0 0 == 48) (nat_lt 1 (length word)) h.no_zero) [
      | inl other ↦ absurd (eqb-false (get_or word 0 0) 48 other e)
      | inr short ↦ omega (arith, ltb-false 1 (length word) short, h.some)
    ]

spelled : (word : List ℕ) → is_numeral word ≡ true → value_after 0 word < 2 ^ 64 → decimal (value_after 0 word) ≡ word
spelled word e small = let h = numeral_is word e in decimal-digits_value own word h.digits h.some (one_digit word h) small

small_value : (word : List ℕ) (n : ℕ) → is_numeral word ≡ true → (small : Bool) → nat_lt (value_after 0 word) (2 ^ 32) ≡ small →
    cond small (Some (value_after 0 word)) None ≡ Some n → (word ≡ decimal n) × (n < 2 ^ 32)
small_value word n e true t q =
    let is : value_after 0 word ≡ n = same_Some _ _ q in
    let lt : value_after 0 word < 2 ^ 32 = ltb-true _ _ t in
    (sym (spelled word e (omega arith)) ∙ ap decimal is, omega arith)
small_value word n e false t q = absurd cc

numeral_value : (word : List ℕ) (n : ℕ) (good : Bool) → is_numeral word ≡ good →
    cond good (cond (nat_lt (value_after 0 word) (2 ^ 32)) (Some (value_after 0 word)) None) None ≡ Some n → (word ≡ decimal n) × (n < 2 ^ 32)
numeral_value word n true e q = small_value word n e (nat_lt (value_after 0 word) (2 ^ 32)) refl q
numeral_value word n false e q = absurd cc

-- the number of a word is spelled so
pub number_takes : (word : List ℕ) (n : ℕ) → number_in word ≡ Some n → (word ≡ decimal n) × (n < 2 ^ 32)
number_takes word n e = numeral_value word n (is_numeral word) refl e

pub number_found : (word : List ℕ) (r : Option ℕ) → r ≡ number_in word → IfSome r (λ n. word ≡ decimal n)
number_found word None e = tt
number_found word (Some n) e = (number_takes word n (sym e)).0

pub number_none : (word : List ℕ) (r : Option ℕ) → r ≡ number_in word → IfNone r ((n : ℕ) → n < 2 ^ 32 → word ≢ decimal n)
number_none word None e = λ n lt is. let both : None ≡ Some n = e ∙ ap number_in is ∙ number_again n lt in absurd cc
number_none word (Some n) e = tt

pub number_not : (word : List ℕ) → is_numeral word ≡ false → None ≡ number_in word
number_not word e = sym (cond-false (is_numeral word) (cond (nat_lt (value_after 0 word) (2 ^ 32)) (Some (value_after 0 word)) None) None e)
