-- The loss of the primary: in a state, and in what a run answered.
use Rattle.std.specs.Prelude.{◌≡◌, Bool, true, false, ◌||◌, List, [], ◌∷◌}
use Rattle.plan_lang.specs.declared.lines.Line.{Line}
use Rattle.plan_lang.specs.declared.lines.Line.TheVariants as line
use Rattle.rdf_core.specs.declared.replies.Reply.{Reply}
use Rattle.rdf_core.specs.declared.replies.Reply.TheVariants.{Done}
use Rattle.rdf_core.specs.Primary.{is_lost}
use Rattle.rdf_core.specs.State.{State}

-- the primary is lost
abbrev pub IsLost : State → Type 0
IsLost s = is_lost s.primary.standing ≡ true

-- a `lose` that is answered ok
abbrev pub loses : Line → Reply → Bool
loses line.Lose Done = true
loses _ _ = false

-- some `lose` was answered ok
abbrev pub has_lost : List Line → List Reply → Bool
has_lost [] replies = false
has_lost (l ∷ lines) [] = false
has_lost (l ∷ lines) (reply ∷ replies) = loses l reply || has_lost lines replies
