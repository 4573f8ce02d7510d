-- Words that are added to a line.
use Rattle.std.specs.Prelude.{ℕ, List, [], ◌∷◌, ◌++◌}

-- the line with each of these words behind it, after a space
abbrev pub with_words : List ℕ → List (List ℕ) → List ℕ
with_words line [] = line
with_words line (w ∷ words) = with_words (line ++ 32 ∷ w) words
