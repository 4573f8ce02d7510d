-- What the lines of a run are answered for how the nodes stand, whatever their disks tell.
use Rattle.std.specs.Prelude.{List, [], ◌∷◌}
use Rattle.rdf_types.specs.declared.layout.Layout.{Layout}
use Rattle.plan_lang.specs.declared.lines.Line.{Line}
use Rattle.rdf_core.specs.declared.replies.Reply.{Reply}
use Rattle.rdf_system.specs.Stances.{Stances, IsJudgedBy, MovesTo}

-- each line is answered so for how the nodes stand, which moves them, from there on to where that holds of how they stand
abbrev pub AreJudged : Layout → Stances → List Line → List Reply → (Stances → Type 0) → Type 0
AreJudged layout s [] [] Now = Now s
AreJudged layout s (l ∷ lines) (reply ∷ replies) Now = IsJudgedBy s l reply × ((next : Stances) × (MovesTo layout l reply s next × AreJudged layout next lines replies Now))
AreJudged layout s [] (reply ∷ replies) Now = ⊥
AreJudged layout s (l ∷ lines) [] Now = ⊥

-- however they stand
abbrev pub Anyhow : Stances → Type 0
Anyhow s = Unit {0}
