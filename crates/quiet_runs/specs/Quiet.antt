-- Runs in which no disk stops.
use Rattle.std.specs.Prelude.{◌≡◌, ℕ, List, [], ◌∷◌, IsTrue, true}
use Rattle.rdf_types.specs.declared.layout.Layout.{Layout}
use Rattle.rdf_types.specs.declared.records.Node.{Node}
use Rattle.by_node.specs.Each.{at}
use Rattle.plan_lang.specs.declared.lines.Line.{Line}
use Rattle.rdf_core.specs.declared.replies.Reply.{Reply}
use Rattle.rdf_core.specs.Effects.{IsDone}
use Rattle.rdf_core.specs.Sessions.{is_backup_node}
use Rattle.rdf_core.specs.State.{State, blank}
use Rattle.rdf_core.specs.Lines.{refusal, kept, after, says}
use Rattle.rdf_core.specs.Allowed.{allowed}
use Rattle.rdf_core.specs.Step.{Goes, CanApply, after_apply}

-- a plan may have the line here, and it is refused, or done whole
pub record QuietStep (layout : Layout) (old : State) (l : Line) (reply : Reply) (new : State) : Type 0 where
  pub may : IsTrue (allowed layout old.session l)
  pub points : List ℕ
  pub goes : Goes layout old l points
  pub done : IsDone (refusal layout old l) (kept old l) (after layout points old l) (says layout points old l) reply new

-- volumes of the open session, each named with a position, rise to these positions one after another
abbrev pub Rise : Layout → State → List (ℕ × ℕ) → State → Type 0
Rise layout old [] new = new ≡ old
Rise layout old (r ∷ rises) new = CanApply layout old old.session r.0 r.1 × Rise layout (after_apply old old.session r.0 r.1) rises new

-- what may happen between two lines
abbrev pub QuietDrifts : Layout → State → State → Type 0
QuietDrifts layout old new = (rises : List (ℕ × ℕ)) × Rise layout old rises new

-- the lines may have these replies, one after another, and no disk stops
abbrev pub QuietFrom : Layout → State → List Line → List Reply → State → Type 0
QuietFrom layout old [] [] last = QuietDrifts layout old last
QuietFrom layout old (l ∷ lines) (reply ∷ replies) last =
    (mid : State) × (next : State) × QuietDrifts layout old mid × QuietStep layout mid l reply next × QuietFrom layout next lines replies last
QuietFrom layout old [] (reply ∷ replies) last = ⊥
QuietFrom layout old (l ∷ lines) [] last = ⊥

-- so from the blank state
abbrev pub QuietRun : Layout → List Line → List Reply → State → Type 0
QuietRun layout lines replies last = QuietFrom layout (blank layout) lines replies last

-- no stop of any node was counted
pub record NoneStopped (s : State) : Type 0 where
  pub primary : s.primary.stops ≡ 0
  pub backups : (node : Node) → is_backup_node node ≡ true → (at s.backups node).stops ≡ 0

-- one line of a run: the lines before it lead to the state that it finds, and those behind it go on from the one that it leaves
pub record StepIn (layout : Layout) (start : State) (before : List Line) (answered : List Reply) (l : Line) (reply : Reply) (behind : List Line) (replies : List Reply) (last : State) : Type 0 where
  pub old : State
  pub new : State
  pub came : QuietFrom layout start before answered old
  pub does : QuietStep layout old l reply new
  pub goes_on : QuietFrom layout new behind replies last
