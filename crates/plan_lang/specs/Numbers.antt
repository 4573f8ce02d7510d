-- Numbers in a text: decimal digits without a sign and without a leading zero.
use Rattle.std.specs.Prelude.{ℕ, ◌+◌, ◌-◌, ◌*◌, ◌^◌, Bool, not, ◌&&◌, ◌==◌, nat_lt, List, [], ◌∷◌, length, slice_index, Option, Some, None, if◌then◌else◌}
use Rattle.std.specs.List.{list_all}
use Rattle.std.specs.Char.{is_ascii_digit}

-- each byte is a decimal digit
abbrev pub are_digits : List ℕ → Bool
are_digits word = list_all is_ascii_digit word

-- a zero stands before other digits
abbrev pub has_leading_zero : List ℕ → Bool
has_leading_zero word = (slice_index word 0 == 48) && nat_lt 1 (length word)

-- the word is the text of a number
abbrev pub is_numeral : List ℕ → Bool
is_numeral word = nat_lt 0 (length word) && (not (has_leading_zero word) && are_digits word)

-- the number that digits give after another
abbrev pub value_after : ℕ → List ℕ → ℕ
value_after n [] = n
value_after n (d ∷ more) = value_after (10 * n + (d - 48)) more

-- the number of a word, where it is one of at most 32 bits
abbrev pub number_in : List ℕ → Option ℕ
number_in word = if is_numeral word then (if nat_lt (value_after 0 word) (2 ^ 32) then Some (value_after 0 word) else None) else None
