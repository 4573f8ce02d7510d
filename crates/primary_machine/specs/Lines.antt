-- What the calls of the primary do for their lines.
use Rattle.std.specs.Prelude.{ℕ, ◌+◌, List, length, take, fold}
use Rattle.rdf_types.specs.declared.layout.Layout.{Layout}
use Rattle.plan_lang.specs.declared.lines.Line.{Line}
use Rattle.rdf_core.specs.declared.replies.Reply.{Reply}
use Rattle.rdf_model.specs.Lines.{after_abort}
use Rattle.rdf_core.specs.Effects.{IsDone}
use Rattle.rdf_core.specs.Primary.{Primary, primary_refusal, primary_after, primary_says, primary_fallen}

-- the line is answered by its first refusal, and the primary is as it was, or it is done and answered as the machine says
abbrev pub Performs : Layout → Line → Primary → Reply → Primary → Type 0
Performs layout l old reply new = IsDone (primary_refusal layout old l) (λ _. old) (primary_after old l) (primary_says old l) reply new

-- the primary down, with the first so many records of the backout of these transactions
abbrev pub first_backed_out : Primary → List ℕ → ℕ → Primary
first_backed_out a txns done = primary_fallen 1 (record a { trail = take (length a.trail + done) (fold after_abort a.trail txns) })
