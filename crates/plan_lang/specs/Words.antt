-- Lines and their words, and what reading from the left finds.
use Rattle.std.specs.Prelude.{◌≢◌, ℕ, ◌==◌, Bool, true, false, nat_eq, List, [], ◌∷◌, ◌++◌, length, filter, take, drop, Option, Some, None, if◌then◌else◌}
use Rattle.std.specs.Option.{option_map}
use Rattle.std.specs.List.{AllByRecursion, slice_split}
use Rattle.std.specs.Cmp.Lexicographic.{pointwise}

-- words with one space between them
abbrev pub spaced : List (List ℕ) → List ℕ
spaced [] = []
spaced (w ∷ []) = w
spaced (w ∷ v ∷ more) = w ++ 32 ∷ spaced (v ∷ more)

-- a line of words, and the byte that ends it
abbrev pub text_line : List (List ℕ) → List ℕ
text_line words = spaced words ++ 10 ∷ []

-- the byte is not among these
abbrev pub IsWithout : ℕ → List ℕ → Type 0
IsWithout end bytes = AllByRecursion (λ b. b ≢ end) bytes

-- a byte more at the front of what stands before
abbrev pub with_byte : ℕ → List ℕ × List ℕ → List ℕ × List ℕ
with_byte b found = (b ∷ found.0, found.1)

-- what stands before the first byte of this value, and what stands behind it
abbrev pub word_at : ℕ → List ℕ → Option (List ℕ × List ℕ)
word_at end [] = None
word_at end (b ∷ bytes) = if b == end then Some ([], bytes) else option_map (with_byte b) (word_at end bytes)

-- what stands behind a text that the bytes begin with
abbrev pub behind : List ℕ → List ℕ → Option (List ℕ)
behind text bytes = if pointwise nat_eq (take (length text) bytes) text then Some (drop (length text) bytes) else None

-- there is some byte
abbrev pub is_word : List ℕ → Bool
is_word [] = false
is_word (b ∷ bytes) = true

-- the words of a line: what stands between its spaces
abbrev pub words_in : List ℕ → List (List ℕ)
words_in line = filter is_word (slice_split (λ b. b == 32) line)

-- all but an empty last piece
abbrev pub without_empty_end : List (List ℕ) → List (List ℕ)
without_empty_end [] = []
without_empty_end ([] ∷ []) = []
without_empty_end (piece ∷ pieces) = piece ∷ without_empty_end pieces

-- the lines of a text: what each end of line ends, and what stands behind the last one
unfoldable pub lines_in : List ℕ → List (List ℕ)
lines_in bytes = without_empty_end (slice_split (λ b. b == 10) bytes)

-- the line begins with `#`
abbrev pub is_remark : List ℕ → Bool
is_remark [] = false
is_remark (b ∷ bytes) = b == 35

-- the words of a line, of which a comment has none
abbrev pub words_of : List ℕ → List (List ℕ)
words_of line = if is_remark line then [] else words_in line
