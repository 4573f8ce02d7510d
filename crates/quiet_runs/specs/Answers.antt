-- What takeovers and copies are answered in a run in which no disk stops.
use Rattle.std.specs.Prelude.{◌≡◌, ◌-◌, nat_lt, true, List, ◌∷◌, ◌++◌, length, if◌then◌else◌}
use Rattle.rdf_types.specs.declared.layout.Layout.{Layout}
use Rattle.plan_lang.specs.declared.lines.Line.{Line}
use Rattle.plan_lang.specs.declared.lines.Line.TheVariants as line
use Rattle.rdf_core.specs.declared.replies.NoWhy.TheVariants as no
use Rattle.rdf_core.specs.declared.replies.Reply.{Reply}
use Rattle.rdf_core.specs.declared.replies.Reply.TheVariants.{Number, No}
use Rattle.rdf_core.specs.Backup.{Backup, is_taken, kept_of}
use Rattle.by_node.specs.Each.{at}
use Rattle.rdf_core.specs.State.{State}
use Rattle.rdf_core.specs.Losses.{IsLost, has_lost}
use Rattle.quiet_runs.specs.Quiet.{StepIn}

-- the backup is up, and has taken over
pub record IsUpAndTaken (b : Backup) : Type 0 where
  pub up : b.up ≡ true
  pub taken : is_taken b.volumes ≡ true

-- a takeover of a backup that is up, once the primary is lost, is answered with what the backup has received
abbrev pub AnswersTakeover : State → Line → Reply → Type 0
AnswersTakeover s (line.Takeover node) reply = IsLost s → (at s.backups node).up ≡ true → reply ≡ Number (at s.backups node).received
AnswersTakeover s _ reply = Unit {0}

-- a copy between two backups that are up and have taken over is answered with how much the leading one has more, or that what the other lacks is purged
abbrev pub AnswersCopy : State → Line → Reply → Type 0
AnswersCopy s (line.CopyAudit node from) reply =
    IsUpAndTaken (at s.backups node) → IsUpAndTaken (at s.backups from) →
    reply ≡ (if nat_lt (at s.backups node).received (kept_of (at s.backups from)) then No (no.Purged (at s.backups node).received) else Number ((at s.backups from).received - (at s.backups node).received))
AnswersCopy s _ reply = Unit {0}

-- a line of the run: in the state in which it is done the primary is lost where a `lose` before it was answered ok, and takeovers and copies are answered so
pub record IsAnswered (layout : Layout) (start : State) (before : List Line) (answered : List Reply) (l : Line) (reply : Reply) (behind : List Line) (replies : List Reply) (last : State) : Type 0 where
  pub step : StepIn layout start before answered l reply behind replies last
  pub lost : has_lost before answered ≡ true → IsLost step.old
  pub takeover : AnswersTakeover step.old l reply
  pub copy : AnswersCopy step.old l reply

-- so for each line of the run
abbrev pub EachIsAnswered : Layout → State → List Line → List Reply → State → Type 0
EachIsAnswered layout start lines replies last =
    (before behind : List Line) (answered following : List Reply) (l : Line) (reply : Reply) → lines ≡ before ++ l ∷ behind → replies ≡ answered ++ reply ∷ following → length before ≡ length answered →
    IsAnswered layout start before answered l reply behind following last
