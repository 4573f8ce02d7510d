-- The pieces between the spaces of a line, and between the ends of line of a text.
use Rattle.std.proofs.Common.{◌≡◌, ℕ, true, false, cond, ◌==◌, List, [], ◌∷◌, length, Option, Some, None, refl, sym, ap, ◌∙◌}
use Rattle.std.specs.Prelude.{filter}
use Rattle.std.specs.Option.{option_map}
use Rattle.std.specs.List.{slice_split, onto_first}
use Rattle.plan_lang.specs.Words.{word_at, with_byte, is_word, words_in}

-- the pieces where the first was found, or was not
abbrev pub pieces_from : ℕ → List ℕ → Option (List ℕ × List ℕ) → List (List ℕ)
pieces_from end bytes None = bytes ∷ []
pieces_from end bytes (Some found) = found.0 ∷ slice_split (λ b. b == end) found.1

onto_pieces : (end b : ℕ) (bytes : List ℕ) (found : Option (List ℕ × List ℕ)) → onto_first b (pieces_from end bytes found) ≡ pieces_from end (b ∷ bytes) (option_map (with_byte b) found)
onto_pieces end b bytes None = refl
onto_pieces end b bytes (Some found) = refl

pieces-word_at : (end : ℕ) (bytes : List ℕ) → slice_split (λ b. b == end) bytes ≡ pieces_from end bytes (word_at end bytes)
pieces-word_at end [] = refl
pieces-word_at end (b ∷ bytes) =
    elim (b == end) as (λ m. cond m ([] ∷ slice_split (λ b. b == end) bytes) (onto_first b (slice_split (λ b. b == end) bytes)) ≡ pieces_from end (b ∷ bytes) (cond m (Some ([], bytes)) (option_map (with_byte b) (word_at end bytes)))) [
      | true ↦ refl
      | false ↦ ap (onto_first b) (pieces-word_at end bytes) ∙ onto_pieces end b bytes (word_at end bytes)
    ]

pub piece_found : (end : ℕ) (bytes piece rest : List ℕ) → Some (piece, rest) ≡ word_at end bytes → slice_split (λ b. b == end) bytes ≡ piece ∷ slice_split (λ b. b == end) rest
piece_found end bytes piece rest e = pieces-word_at end bytes ∙ ap (pieces_from end bytes) (sym e)

pub piece_none : (end : ℕ) (bytes : List ℕ) → None ≡ word_at end bytes → slice_split (λ b. b == end) bytes ≡ bytes ∷ []
piece_none end bytes e = pieces-word_at end bytes ∙ ap (pieces_from end bytes) (sym e)

-- ---- words

kept : (word : List ℕ) (words : List (List ℕ)) → is_word word ≡ true → filter is_word (word ∷ words) ≡ word ∷ filter is_word words
kept word words e = ap (λ b. cond b (word ∷ filter is_word words) (filter is_word words)) e

-- a word, and those behind it
pub words_found : (bytes word rest : List ℕ) → Some (word, rest) ≡ word_at 32 bytes → is_word word ≡ true → words_in bytes ≡ word ∷ words_in rest
words_found bytes word rest e some = ap (filter is_word) (piece_found 32 bytes word rest e) ∙ kept word (slice_split (λ b. b == 32) rest) some

-- the last word
pub words_last : (bytes : List ℕ) → None ≡ word_at 32 bytes → is_word bytes ≡ true → words_in bytes ≡ bytes ∷ []
words_last bytes e some = ap (filter is_word) (piece_none 32 bytes e) ∙ kept bytes [] some

-- what has some length has some byte
pub some_from : (word : List ℕ) → (length word == 0) ≡ false → is_word word ≡ true
some_from [] e = absurd cc
some_from (b ∷ word) e = refl
