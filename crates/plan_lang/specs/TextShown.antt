-- A text that is read line by line, as the lines that are left of it.
use Rattle.std.specs.Prelude.{ℕ, List, Result}
use Rattle.plan_lang.specs.declared.text.Text.{Text}
use Rattle.plan_lang.specs.declared.text.NextLine.{NextLine}
use Rattle.plan_lang.specs.declared.why.BadLine.{BadLine}
use Rattle.plan_lang.specs.LineReading.{Gives, words_left}
use Rattle.plan_lang.specs.Words.{lines_in}
use Rattle.plan_lang.specs.Grammar.{Next}

-- the next line, with the words that it has
abbrev pub next_of : NextLine → Next
next_of x = record { number = x.number; words = words_left x.words; after = x.behind.number; behind = lines_in x.behind.rest.now }

-- what was read of a text, seen by view, and the text behind it are what reading gives of its lines
abbrev pub GivesOf : {X Y : Type 0} → (X → Y) → Result (X × Text) BadLine → Text → (ℕ → List (List ℕ) → Result (Y × ℕ × List (List ℕ)) BadLine) → Type 0
GivesOf view result text reading = Gives (λ x. (view x.0, x.1.number, lines_in x.1.rest.now)) result (reading text.number (lines_in text.rest.now))
