-- Texts of which each byte can be seen.
use Rattle.std.proofs.Common.{◌≡◌, ℕ, ◌<◌, ◌^◌, Bool, true, List, [], ◌∷◌, refl, arith, rules}
use Rattle.std.specs.Prelude.{decimal}
use Rattle.std.specs.Char.{is_ascii_digit}
use Rattle.std.specs.List.{list_all}
use Rattle.std.proofs.lemmas.Bool.{and_parts, and_from}
use Rattle.std.proofs.lemmas.Bool.Decides.{nat_tests}
use Rattle.std.proofs.lemmas.Fmt.{digits_decimal}
use Rattle.rdf_types.specs.Limits.{is_text_byte}
use Rattle.std.proofs.lemmas.Str.Parse.{numerals_by_value}
use Rattle.plan_lang.specs.Numbers.{are_digits}

-- each byte can be seen
abbrev pub IsGraphic : List ℕ → Type 0
IsGraphic word = list_all is_text_byte word ≡ true

-- what passes one test passes a wider one
pub wider : (p q : ℕ → Bool) → ((b : ℕ) → p b ≡ true → q b ≡ true) → (word : List ℕ) → list_all p word ≡ true → list_all q word ≡ true
wider p q h [] e = refl
wider p q h (b ∷ word) e = let t = and_parts (p b) (list_all p word) e in and_from (q b) (list_all q word) (h b t.0) (wider p q h word t.1)

seen_digit : (b : ℕ) → is_ascii_digit b ≡ true → is_text_byte b ≡ true
seen_digit b e = grind (arith, nat_tests)

-- so can each digit of a number
pub decimal_graphic : (n : ℕ) → n < 2 ^ 32 → IsGraphic (decimal n)
decimal_graphic n lt = wider is_ascii_digit is_text_byte seen_digit (decimal n) (digits_decimal (numerals_by_value (λ ds. are_digits ds ≡ true) (search rules)) n (omega arith))
