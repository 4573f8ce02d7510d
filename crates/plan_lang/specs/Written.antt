-- The plan that bytes are, by what is written in them: no reader is named.
use Rattle.std.specs.Prelude.{◌≡◌, ℕ, ◌≤◌, ◌==◌, Bool, true, false, ◌||◌, List, [], ◌∷◌, ◌++◌, length, map, filter}
use Rattle.std.specs.List.{AllPass}
use Rattle.plan_lang.specs.declared.lines.Plan.{Plan}
use Rattle.plan_lang.specs.LineText.{line_words, is_printed}
use Rattle.plan_lang.specs.PlanText.{header_words, IsPlan}
use Rattle.plan_lang.specs.PlanShown.{HaveNoFuse}
use Rattle.plan_lang.specs.Words.{lines_in, words_of}

-- the byte ends a line, or may stand in one
abbrev pub may_stand : ℕ → Bool
may_stand b = b == 10 || is_printed b

-- there is some word
abbrev pub has_words : List (List ℕ) → Bool
has_words [] = false
has_words (word ∷ words) = true

-- the words of the lines that have any: a blank line and a comment have none
abbrev pub worded : List (List ℕ) → List (List (List ℕ))
worded lines = filter has_words (map words_of lines)

-- the bytes are this plan: each may stand, and word for word they say what the plan's text says
pub record IsWritten (fuses : Bool) (bytes : List ℕ) (plan : Plan) : Type 0 where
  pub few : length (lines_in bytes) ≤ 20000
  pub printed : AllPass may_stand bytes
  pub words : worded (lines_in bytes) ≡ header_words plan.layout ++ map line_words plan.lines
  pub has_text : IsPlan plan
  pub no_fuse : fuses ≡ false → HaveNoFuse plan.lines
