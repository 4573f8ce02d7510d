-- A run in which no stop was counted is quiet, and a quiet run is one.
use Rattle.std.proofs.Common.{◌≡◌, ℕ, ◌<◌, List, [], ◌∷◌, ◌++◌, length, IsTrue, refl, sym, ap, subst, arith}
use Rattle.rdf_types.specs.declared.layout.Layout.{Layout}
use Rattle.plan_lang.specs.declared.lines.Line.{Line}
use Rattle.rdf_core.specs.declared.events.Event.{Event}
use Rattle.rdf_core.specs.declared.events.Event.TheVariants as event
use Rattle.rdf_core.specs.declared.replies.Reply.{Reply}
use Rattle.rdf_core.specs.Effects.{after_parts, parts_unless, Whole, Cut}
use Rattle.by_node.specs.Each.{at-every}
use Rattle.rdf_core.specs.Backup.{Backup}
use Rattle.rdf_core.specs.State.{State, blank, blank_backup}
use Rattle.rdf_core.specs.Lines.{refusal, parts}
use Rattle.rdf_core.specs.Allowed.{allowed}
use Rattle.rdf_core.specs.Step.{StepEnds, after_apply}
use Rattle.rdf_core.specs.Run.{CanMove, Moves, Drifts, RunsFrom, Run, after_move}
use Rattle.quiet_runs.specs.Quiet.{QuietStep, Rise, QuietDrifts, QuietFrom, QuietRun, NoneStopped, StepIn}
use Rattle.quiet_runs.proofs.Counts.{SameStops, same_itself, same_then, none_back, none_on, done_same, apply_same, fallen_counts, halt_counts}

-- from counts of stops

move_quiet : (layout : Layout) (old new : State) (e : Event) (rise : ℕ) → 0 < rise → CanMove layout old e → QuietDrifts layout (after_move rise old e) new × NoneStopped (after_move rise old e) →
    QuietDrifts layout old new × NoneStopped old
move_quiet layout old new (event.Apply vol upto) rise up can rest =
    (((vol, upto) ∷ rest.0.0, (can, rest.0.1)), none_back old (after_apply old old.session vol upto) (apply_same old old.session vol upto) rest.1)
move_quiet layout old new (event.Halt vol) rise up can rest = absurd (halt_counts layout old old.session rise vol up can rest.1)
move_quiet layout old new _ rise up can rest = absurd can

moves_quiet : (layout : Layout) (events : List Event) (old new : State) → Moves layout old events new → NoneStopped new → QuietDrifts layout old new × NoneStopped old
moves_quiet layout [] old new m n = (([], m), subst NoneStopped m n)
moves_quiet layout (e ∷ events) old new m n = move_quiet layout old new e m.1.0 m.1.1.0 m.0 (moves_quiet layout events (after_move m.1.0 old e) new m.1.1.1 n)

step_quiet : (layout : Layout) (old : State) (l : Line) (reply : Reply) (new : State) → IsTrue (allowed layout old.session l) → StepEnds layout old l reply new → NoneStopped new →
    QuietStep layout old l reply new × NoneStopped old
step_quiet layout old l reply new may (points, goes, Whole d) n = (record { may = may; points = points; goes = goes; done = d }, none_back old new (done_same layout points old l reply new d) n)
step_quiet layout old l reply new may (points, goes, Cut node of done off) n =
    absurd (fallen_counts node (after_parts old (parts_unless (refusal layout old l) (parts layout points old l)) done) off.rise off.some (subst NoneStopped off.leaves n))

pub runs_quiet : (layout : Layout) (lines : List Line) (replies : List Reply) (old last : State) → RunsFrom layout old lines replies last → NoneStopped last →
    QuietFrom layout old lines replies last × NoneStopped old
runs_quiet layout [] [] old last r n = moves_quiet layout r.0 old last r.1 n
runs_quiet layout [] (reply ∷ replies) old last r n = absurd r
runs_quiet layout (l ∷ lines) [] old last r n = absurd r
runs_quiet layout (l ∷ lines) (reply ∷ replies) old last r n =
    let rest : QuietFrom layout r.1 lines replies last × NoneStopped r.1 = runs_quiet layout lines replies r.1 last r.4 n in
    let step : QuietStep layout r.0 l reply r.1 × NoneStopped r.0 = step_quiet layout r.0 l reply r.1 r.3.0 r.3.1 rest.1 in
    let drift : QuietDrifts layout old r.0 × NoneStopped old = moves_quiet layout r.2.0 old r.0 r.2.1 step.1 in
    ((r.0, r.1, drift.0, step.0, rest.0), drift.1)

pub run_quiet : (layout : Layout) (lines : List Line) (replies : List Reply) (last : State) → Run layout lines replies last → NoneStopped last → QuietRun layout lines replies last
run_quiet layout lines replies last r n = (runs_quiet layout lines replies (blank layout) last r n).0

-- to counts of stops

rises_move : (layout : Layout) (rises : List (ℕ × ℕ)) (old new : State) → Rise layout old rises new → Drifts layout old new × SameStops old new
rises_move layout [] old new m = (([], m), subst (SameStops old) (sym m) (same_itself old))
rises_move layout (r ∷ rises) old new m =
    let mid : State = after_apply old old.session r.0 r.1 in
    let rest : Drifts layout mid new × SameStops mid new = rises_move layout rises mid new m.1 in
    ((event.Apply r.0 r.1 ∷ rest.0.0, (m.0, (1, (omega arith, rest.0.1)))), same_then old mid new (apply_same old old.session r.0 r.1) rest.1)

pub quiet_runs_same : (layout : Layout) (lines : List Line) (replies : List Reply) (old last : State) → QuietFrom layout old lines replies last → RunsFrom layout old lines replies last × SameStops old last
quiet_runs_same layout [] [] old last r = rises_move layout r.0 old last r.1
quiet_runs_same layout [] (reply ∷ replies) old last r = absurd r
quiet_runs_same layout (l ∷ lines) [] old last r = absurd r
quiet_runs_same layout (l ∷ lines) (reply ∷ replies) old last r =
    let drift : Drifts layout old r.0 × SameStops old r.0 = rises_move layout r.2.0 old r.0 r.2.1 in
    let rest : RunsFrom layout r.1 lines replies last × SameStops r.1 last = quiet_runs_same layout lines replies r.1 last r.4 in (
      (r.0, r.1, drift.0, (r.3.may, (r.3.points, r.3.goes, Whole r.3.done)), rest.0),
      same_then old r.0 last drift.1 (same_then r.0 r.1 last (done_same layout r.3.points r.0 l reply r.1 r.3.done) rest.1),
    )

pub quiet_runs : (layout : Layout) (lines : List Line) (replies : List Reply) (old last : State) → QuietFrom layout old lines replies last → NoneStopped old →
    RunsFrom layout old lines replies last × NoneStopped last
quiet_runs layout lines replies old last r n =
    let all : RunsFrom layout old lines replies last × SameStops old last = quiet_runs_same layout lines replies old last r in
    (all.0, none_on old last all.1 n)

pub quiet_run : (layout : Layout) (lines : List Line) (replies : List Reply) (last : State) → QuietRun layout lines replies last → Run layout lines replies last × NoneStopped last
quiet_run layout lines replies last r = quiet_runs layout lines replies (blank layout) last r (record { primary = refl; backups = λ node backup. ap (λ (b : Backup). b.stops) (at-every (blank_backup layout) node) })

-- one line of a run

pub step_in : (layout : Layout) (before : List Line) (answered : List Reply) (start : State) (l : Line) (reply : Reply) (behind : List Line) (replies : List Reply) (last : State) →
    length before ≡ length answered → QuietFrom layout start (before ++ l ∷ behind) (answered ++ reply ∷ replies) last → StepIn layout start before answered l reply behind replies last
step_in layout [] [] start l reply behind replies last e r = record { old = r.0; new = r.1; came = r.2; does = r.3; goes_on = r.4 }
step_in layout [] (x ∷ answered) start l reply behind replies last e r = absurd (omega (arith, e))
step_in layout (k ∷ before) [] start l reply behind replies last e r = absurd (omega (arith, e))
step_in layout (k ∷ before) (x ∷ answered) start l reply behind replies last e r =
    let rest : StepIn layout r.1 before answered l reply behind replies last = step_in layout before answered r.1 l reply behind replies last (omega (arith, e)) r.4 in
    record { old = rest.old; new = rest.new; came = (r.0, r.1, r.2, r.3, rest.came); does = rest.does; goes_on = rest.goes_on }
