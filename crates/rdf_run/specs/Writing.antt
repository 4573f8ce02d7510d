-- How much of what is predicted was written.
use Rattle.std.specs.Prelude.{◌≡◌, ℕ, List, [], ◌∷◌, ◌++◌, take}
use Rattle.rdf_types.specs.declared.layout.Layout.{Layout}
use Rattle.plan_lang.specs.declared.lines.Line.{Line}
use Rattle.rdf_core.specs.declared.replies.Reply.{Reply}
use Rattle.rdf_monitor.specs.Written.{Wrote, WrotePart}
use Rattle.rdf_run.specs.Predicted.{Predicted}

-- the texts of the replies to all lines
pub record WroteAll (layout : Layout) (lines : List Line) (old new : List ℕ) : Type 0 where
  pub replies : List Reply
  pub predicted : Predicted layout lines replies
  pub wrote : Wrote replies old new

-- the texts of the replies to the lines up to one, but of the last reply a first part that is not all of it
pub record WrotePartly (layout : Layout) (lines : List Line) (old new : List ℕ) : Type 0 where
  pub before : List Line
  pub line : Line
  pub behind : List Line
  pub parts : lines ≡ before ++ line ∷ behind
  pub replies : List Reply
  pub reply : Reply
  pub predicted : Predicted layout (before ++ line ∷ []) (replies ++ reply ∷ [])
  pub wrote : WrotePart replies reply old new

-- the texts of the replies to some first lines, or to none
pub record WroteSome (layout : Layout) (lines : List Line) (old new : List ℕ) : Type 0 where
  pub many : ℕ
  pub wrote : WroteAll layout (take many lines) old new
