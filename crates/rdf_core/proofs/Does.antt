-- What the machine does goes on with a run.
use Rattle.std.proofs.Common.{◌≡◌, ℕ, ◌≤◌, Bool, true, false, List, [], ◌∷◌, ◌++◌, Option, Some, None, IsTrue, refl, subst, sym, ap, arith}
use Rattle.rdf_types.specs.declared.layout.Layout.{Layout}
use Rattle.rdf_types.specs.declared.records.Node.{Node}
use Rattle.rdf_types.specs.declared.records.Record.{Record}
use Rattle.plan_lang.specs.declared.lines.Line.{Line}
use Rattle.plan_lang.specs.declared.lines.Line.TheVariants as line
use Rattle.by_node.specs.Each.{at}
use Rattle.rdf_core.specs.Effects.{Whole, Cut}
use Rattle.rdf_core.specs.declared.events.Event.{Event}
use Rattle.rdf_core.specs.declared.events.Event.TheVariants as event
use Rattle.rdf_core.specs.declared.replies.Reply.{Reply}
use Rattle.rdf_core.specs.Layouts.{point_of}
use Rattle.rdf_core.specs.Backup.{Volumes, Running, Taking, Taken, points_in}
use Rattle.rdf_core.specs.Sessions.{Session, Closed, Refused, Open, Opened}
use Rattle.plan_lang.specs.LineText.{same_node}
use Rattle.rdf_core.specs.State.{State, blank}
use Rattle.rdf_core.specs.Step.{Step, Goes, MayLearn, MayUse, MayUseOf}
use Rattle.rdf_core.specs.Run.{CanMove, after_move, RunsFrom, Run}
use Rattle.rdf_core.specs.Allowed.{allowed}
use Rattle.rdf_core.specs.Happens.{Does, Stops, CanStop, Happens, Admits, points_for, line_of, reply_of}
use Rattle.rdf_core.specs.Sound.{HaveRisen, NoneHasFallen}
use Rattle.rdf_core.specs.SessionLaws.{node_same}
use Rattle.rdf_core.proofs.Risen.{no_point_falls}
use Rattle.rdf_core.proofs.RisingLaws.{run_drifts}

itself : (n : ℕ) → n ≤ n
itself n = omega arith

learned_now : (layout : Layout) (trail : List Record) (o : Opened) (v : Volumes) → HaveRisen layout o v → MayLearn layout trail o v (points_in layout trail v)
learned_now layout trail o (Running points) h = record { whole = refl; low = h; high = λ v p. itself (point_of points v) }
learned_now layout trail o Taking h = refl
learned_now layout trail o (Taken upto) h = refl

present_of : (layout : Layout) (s : State) (o : Opened) (node : Node) (mine : Bool) → same_node o.node node ≡ mine → HaveRisen layout o (at s.backups o.node).volumes →
    MayUseOf layout s.primary.trail mine o (at s.backups node).volumes (points_in layout s.primary.trail (at s.backups node).volumes)
present_of layout s o node true e h = learned_now layout s.primary.trail o (at s.backups node).volumes (subst (λ n. HaveRisen layout o (at s.backups n).volumes) (node_same o.node node e) h)
present_of layout s o node false e h = refl

present : (layout : Layout) (s : State) (session : Session) (node : Node) → NoneHasFallen layout s session →
    MayUse layout s.primary.trail session node (at s.backups node).volumes (points_in layout s.primary.trail (at s.backups node).volumes)
present layout s Closed node h = refl
present layout s (Refused of why) node h = refl
present layout s (Open o) node h = present_of layout s o node (same_node o.node node) refl h

pub goes_for : (layout : Layout) (s : State) (l : Line) → NoneHasFallen layout s s.session → Goes layout s l (points_for layout s l)
goes_for layout s (line.Purge node) h = present layout s s.session node h
goes_for layout s _ h = tt

-- what the machine does with a line is a step
does_steps : (layout : Layout) (s : State) (l : Line) (reply : Reply) (new : State) → NoneHasFallen layout s s.session → IsTrue (allowed layout s.session l) → Does layout s l reply new →
    Step layout s l reply new
does_steps layout s l reply new h may d = (may, (points_for layout s l, goes_for layout s l h, Whole d))

stop_steps : (layout : Layout) (s : State) (node : Node) (l : Line) (done : ℕ) (reply : Reply) (new : State) → NoneHasFallen layout s s.session → CanStop layout s node l done →
    Stops layout s node l done reply new → Step layout s l reply new
stop_steps layout s node l done reply new h can stops =
    (can.may, (points_for layout s l, goes_for layout s l h, Cut node can.of done (record { may = can.reaches; few = can.few; says = stops.0; rise = 1; some = omega arith; leaves = stops.1 })))

-- one step more
then_step : (layout : Layout) (lines : List Line) (replies : List Reply) (old mid new : State) (l : Line) (reply : Reply) → RunsFrom layout old lines replies mid → Step layout mid l reply new →
    RunsFrom layout old (lines ++ l ∷ []) (replies ++ reply ∷ []) new
then_step layout [] [] old mid new l reply r s = (mid, new, r, s, ([], refl))
then_step layout [] (x ∷ replies) old mid new l reply r s = absurd r
then_step layout (k ∷ lines) [] old mid new l reply r s = absurd r
then_step layout (k ∷ lines) (x ∷ replies) old mid new l reply r s = (r.0, r.1, r.2, r.3, then_step layout lines replies r.1 mid new l reply r.4 s)

append_none : {X : Type 0} (xs : List X) → xs ++ [] ≡ xs
append_none [] = refl
append_none (x ∷ xs) = ap (λ ys. x ∷ ys) (append_none xs)

pub run_steps : (layout : Layout) (lines : List Line) (replies : List Reply) (s new : State) (l : Line) (reply : Reply) → Run layout lines replies s → Step layout s l reply new →
    Run layout (lines ++ l ∷ []) (replies ++ reply ∷ []) new
run_steps layout lines replies s new l reply r step = then_step layout lines replies (blank layout) s new l reply r step

moved : (layout : Layout) (lines : List Line) (replies : List Reply) (s new : State) (e : Event) → Run layout lines replies s → CanMove layout s e → new ≡ after_move 1 s e → Run layout (lines ++ []) (replies ++ []) new
moved layout lines replies s new e r can h =
    subst (λ (ls : List Line). Run layout ls (replies ++ []) new) (sym (append_none lines))
    (subst (λ (rs : List Reply). Run layout lines rs new) (sym (append_none replies))
    (run_drifts layout lines replies s new r (e ∷ [], (can, (1, (omega arith, h))))))

pub event_goes_on : (layout : Layout) (lines : List Line) (replies : List Reply) (s : State) (e : Event) (answer : Option Reply) (new : State) → Run layout lines replies s →
    Admits layout s e → Happens layout s e answer new → Run layout (lines ++ line_of e) (replies ++ reply_of answer) new
event_goes_on layout lines replies s (event.Do l) (Some reply) new r a h =
    run_steps layout lines replies s new l reply r (does_steps layout s l reply new (no_point_falls layout lines replies s r) a h)
event_goes_on layout lines replies s (event.Do l) None new r a h = absurd h
event_goes_on layout lines replies s (event.Apply vol upto) None new r a h = moved layout lines replies s new (event.Apply vol upto) r a h
event_goes_on layout lines replies s (event.Apply vol upto) (Some reply) new r a h = absurd h
event_goes_on layout lines replies s (event.Halt vol) None new r a h = moved layout lines replies s new (event.Halt vol) r a h
event_goes_on layout lines replies s (event.Halt vol) (Some reply) new r a h = absurd h
event_goes_on layout lines replies s (event.Stop node l done) (Some reply) new r a h =
    run_steps layout lines replies s new l reply r (stop_steps layout s node l done reply new (no_point_falls layout lines replies s r) a h)
event_goes_on layout lines replies s (event.Stop node l done) None new r a h = absurd h
