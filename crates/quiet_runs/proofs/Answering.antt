-- What takeovers and copies are answered in a quiet run.
use Rattle.std.proofs.Common.{◌≡◌, ◌-◌, Bool, true, false, not, nat_lt, List, [], ◌∷◌, ◌++◌, Option, Some, None, if◌then◌else◌, refl, ap, ◌∙◌, subst}
use Rattle.rdf_types.specs.declared.layout.Layout.{Layout}
use Rattle.rdf_types.specs.declared.records.Node.{Node}
use Rattle.plan_lang.specs.declared.lines.Line.{Line}
use Rattle.plan_lang.specs.declared.lines.Line.TheVariants as line
use Rattle.rdf_core.specs.declared.replies.NoWhy.{NoWhy}
use Rattle.rdf_core.specs.declared.replies.NoWhy.TheVariants as no
use Rattle.rdf_core.specs.declared.replies.Reply.{Reply}
use Rattle.rdf_core.specs.declared.replies.Reply.TheVariants.{Number, No}
use Rattle.rdf_core.specs.Effects.{IsDone, when, first}
use Rattle.rdf_core.specs.Primary.{is_lost}
use Rattle.rdf_core.specs.Backup.{Volumes, Running, Taking, Taken, is_taken, needs_taken, kept_of}
use Rattle.by_node.specs.Each.{at}
use Rattle.rdf_core.specs.State.{State}
use Rattle.rdf_core.specs.Run.{RunsFrom}
use Rattle.rdf_core.specs.Losses.{IsLost, has_lost}
use Rattle.rdf_core.specs.Lines.{refusal, kept, after, says}
use Rattle.quiet_runs.specs.Quiet.{QuietStep, QuietFrom, StepIn}
use Rattle.quiet_runs.specs.Answers.{AnswersTakeover, AnswersCopy, IsAnswered, EachIsAnswered}
use Rattle.quiet_runs.proofs.Runs.{step_in, quiet_runs_same}

-- the law of a `lose` that is answered ok
abbrev LoseLoses : Type 0
LoseLoses = (layout : Layout) (lines : List Line) (replies : List Reply) (old last : State) → RunsFrom layout old lines replies last → has_lost lines replies ≡ true → IsLost last

-- a line that nothing refuses has its reply
not_refused : {X : Type 0} (r : Option NoWhy) (keep : NoWhy → X) (end : X) (says : Reply → Type 0) (reply : Reply) (new : X) → r ≡ None → IsDone r keep end says reply new → says reply
not_refused None keep end says reply new e d = d.0
not_refused (Some why) keep end says reply new e d = cc

may_take : (lost up : Bool) → lost ≡ true → up ≡ true → first (when (not up) no.Down ∷ when (not lost) no.PrimaryUp ∷ []) ≡ None
may_take true true l u = refl
may_take true false l u = cc
may_take false up l u = cc

takeover : (layout : Layout) (old : State) (node : Node) (reply : Reply) (new : State) → QuietStep layout old (line.Takeover node) reply new → AnswersTakeover old (line.Takeover node) reply
takeover layout old node reply new step = λ lost up.
    not_refused (refusal layout old (line.Takeover node)) (kept old (line.Takeover node)) (after layout step.points old (line.Takeover node)) (says layout step.points old (line.Takeover node)) reply new
    (may_take (is_lost old.primary.standing) (at old.backups node).up lost up) step.done

pub takeover_answers : (layout : Layout) (old : State) (l : Line) (reply : Reply) (new : State) → QuietStep layout old l reply new → AnswersTakeover old l reply
takeover_answers layout old (line.Takeover node) reply new step = takeover layout old node reply new step
takeover_answers layout old _ reply new step = tt

-- the first refusal of a copy between two such backups
copy_refused : (up lead_up purged : Bool) (v w : Volumes) (why : NoWhy) → up ≡ true → lead_up ≡ true → is_taken v ≡ true → is_taken w ≡ true →
    first (when (not up) no.Down ∷ when (not lead_up) no.Down ∷ needs_taken v ∷ needs_taken w ∷ when purged why ∷ []) ≡ (if purged then Some why else None)
copy_refused true true true (Taken x) (Taken y) why a b c d = refl
copy_refused true true false (Taken x) (Taken y) why a b c d = refl
copy_refused true true purged (Taken x) (Running points) why a b c d = cc
copy_refused true true purged (Taken x) Taking why a b c d = cc
copy_refused true true purged (Running points) w why a b c d = cc
copy_refused true true purged Taking w why a b c d = cc
copy_refused true false purged v w why a b c d = cc
copy_refused false lead_up purged v w why a b c d = cc

-- refused so, or done
by_test : {X : Type 0} (test : Bool) (why : NoWhy) (r : Option NoWhy) (keep : NoWhy → X) (end : X) (answer reply : Reply) (new : X) → r ≡ (if test then Some why else None) →
    IsDone r keep end (λ x. x ≡ answer) reply new → reply ≡ (if test then No why else answer)
by_test true why None keep end answer reply new e d = cc
by_test true why (Some other) keep end answer reply new e d = d.0 ∙ ap No (the_same other why e)
  where
    the_same : (x y : NoWhy) → Some x ≡ Some y → x ≡ y
    the_same x y f = cc
by_test false why None keep end answer reply new e d = d.0
by_test false why (Some other) keep end answer reply new e d = cc

copy : (layout : Layout) (old : State) (node from : Node) (reply : Reply) (new : State) → QuietStep layout old (line.CopyAudit node from) reply new → AnswersCopy old (line.CopyAudit node from) reply
copy layout old node from reply new step = λ lag lead.
    by_test (nat_lt (at old.backups node).received (kept_of (at old.backups from))) (no.Purged (at old.backups node).received) (refusal layout old (line.CopyAudit node from))
    (kept old (line.CopyAudit node from)) (after layout step.points old (line.CopyAudit node from)) (Number ((at old.backups from).received - (at old.backups node).received)) reply new
    (copy_refused (at old.backups node).up (at old.backups from).up (nat_lt (at old.backups node).received (kept_of (at old.backups from))) (at old.backups node).volumes (at old.backups from).volumes
    (no.Purged (at old.backups node).received) lag.up lead.up lag.taken lead.taken) step.done

pub copy_answers : (layout : Layout) (old : State) (l : Line) (reply : Reply) (new : State) → QuietStep layout old l reply new → AnswersCopy old l reply
copy_answers layout old (line.CopyAudit node from) reply new step = copy layout old node from reply new step
copy_answers layout old _ reply new step = tt

answered_in : LoseLoses → (layout : Layout) (start : State) (before : List Line) (answered : List Reply) (l : Line) (reply : Reply) (behind : List Line) (replies : List Reply) (last : State) →
    StepIn layout start before answered l reply behind replies last → IsAnswered layout start before answered l reply behind replies last
answered_in law layout start before answered l reply behind replies last s = record {
  step = s;
  lost = law layout before answered start s.old (quiet_runs_same layout before answered start s.old s.came).0;
  takeover = takeover_answers layout s.old l reply s.new s.does;
  copy = copy_answers layout s.old l reply s.new s.does;
}

pub each_answered : LoseLoses → (layout : Layout) (lines : List Line) (replies : List Reply) (start last : State) → QuietFrom layout start lines replies last → EachIsAnswered layout start lines replies last
each_answered law layout lines replies start last r = λ before behind answered following l reply e f same.
    answered_in law layout start before answered l reply behind following last (step_in layout before answered start l reply behind following last same
    (subst (λ ls. QuietFrom layout start ls (answered ++ reply ∷ following) last) e (subst (λ rs. QuietFrom layout start lines rs last) f r)))
