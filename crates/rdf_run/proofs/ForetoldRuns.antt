-- What is foretold is a run, and goes on line by line.
use Rattle.std.proofs.Common.{◌≡◌, ℕ, true, false, List, [], ◌∷◌, ◌++◌, if◌then◌else◌, refl, sym, subst, append_assoc}
use Rattle.std.proofs.lemmas.List.{append-nil}
use Rattle.rdf_types.specs.declared.layout.Layout.{Layout}
use Rattle.rdf_types.specs.declared.records.Record.{Record}
use Rattle.plan_lang.specs.declared.lines.Line.{Line}
use Rattle.rdf_core.specs.Effects.{Whole}
use Rattle.rdf_core.specs.declared.replies.Reply.{Reply}
use Rattle.rdf_core.specs.Backup.{Volumes, Running, Taking, Taken, kept_of}
use Rattle.rdf_core.specs.Happens.{Does, points_for}
use Rattle.rdf_core.specs.Run.{Drifts, Run}
use Rattle.rdf_core.specs.Allowed.{allowed}
use Rattle.rdf_core.specs.Sessions.{Session, Closed, Refused, Open}
use Rattle.rdf_core.specs.Sound.{AllSound, AreSound, NoneHasFallen}
use Rattle.by_node.specs.Each.{at}
use Rattle.rdf_core.specs.State.{State, blank}
use Rattle.rdf_core.specs.Step.{Goes}
use Rattle.rdf_run.specs.Predicted.{Foretold, before, goes_by_points, risen_in}
use Rattle.rdf_run.specs.ComingUp.{AreWithin, CanRise}
use Rattle.rdf_run.proofs.Runs.{RunLaws, no_run}
use Rattle.rdf_run.proofs.PointsRise.{rise_drifts, session_kept}
use Rattle.rdf_run.proofs.SessionLeads.{IsFree, Leads, does_leads}

-- the laws of runs that what is foretold goes on by
pub record ForetellingLaws : Type 0 where
  pub runs : RunLaws
  pub join : (layout : Layout) (old mid new : State) → Drifts layout old mid → Drifts layout mid new → Drifts layout old new
  pub goes : (layout : Layout) (s : State) (l : Line) → NoneHasFallen layout s s.session → Goes layout s l (points_for layout s l)
  pub sound : (layout : Layout) (lines : List Line) (replies : List Reply) (last : State) → Run layout lines replies last → AllSound layout last

-- volumes of a backup may rise

within_so : (layout : Layout) (trail : List Record) (received kept : ℕ) (v : Volumes) → AreSound layout trail received kept v → AreWithin layout received v
within_so layout trail received kept (Running points) h = h.high
within_so layout trail received kept Taking h = tt
within_so layout trail received kept (Taken upto) h = tt

pub can_rise : (layout : Layout) (s : State) (session : Session) → AllSound layout s → IsFree session → CanRise layout s session
can_rise layout s Closed h free = tt
can_rise layout s (Refused of why) h free = tt
can_rise layout s (Open o) h free = (free, within_so layout s.primary.trail (at s.backups o.node).received (kept_of (at s.backups o.node)) (at s.backups o.node).volumes (h.backups o.node).volumes)

-- the session of the state in which a line is done
pub before_session : (layout : Layout) (s : State) (l : Line) → (before layout s l).session ≡ s.session
before_session layout s l = elim (goes_by_points l) as (λ m. let x : State = if m then risen_in layout.protect s s.session else s in x.session ≡ s.session) [
  | true ↦ session_kept layout.protect s s.session
  | false ↦ refl
]

pub line_leads : (layout : Layout) (s : State) (l : Line) (reply : Reply) (new : State) → Does layout (before layout s l) l reply new → Leads s.session l new.session
line_leads layout s l reply new d = subst (λ (x : Session). Leads x l new.session) (before_session layout s l) (does_leads layout (before layout s l) l reply new d)

-- one line more

pub foretold_more : (layout : Layout) (s mid new : State) (lines : List Line) (replies : List Reply) (l : Line) (reply : Reply) → Foretold layout s lines replies mid → allowed layout mid.session l ≡ true → Does layout (before layout mid l) l reply new →
    Foretold layout s (lines ++ l ∷ []) (replies ++ reply ∷ []) new
foretold_more layout s mid new [] [] l reply f may d = (new, subst (λ (x : State). allowed layout x.session l ≡ true) f may, subst (λ (x : State). Does layout (before layout x l) l reply new) f d, refl)
foretold_more layout s mid new (k ∷ lines) (x ∷ replies) l reply f may d = (f.0, f.1, f.2, foretold_more layout f.0 mid new lines replies l reply f.3 may d)
foretold_more layout s mid new _ _ l reply f may d = absurd f

foretold_free : (layout : Layout) (s last : State) (lines : List Line) (replies : List Reply) → IsFree s.session → Foretold layout s lines replies last → IsFree last.session
foretold_free layout s last [] [] free f = subst (λ (x : State). IsFree x.session) (sym f) free
foretold_free layout s last (k ∷ lines) (x ∷ replies) free f = foretold_free layout f.0 last lines replies ((line_leads layout s k x f.0 f.2).free free) f.3
foretold_free layout s last _ _ free f = absurd f

-- from the start on
pub none_stopped : (layout : Layout) (last : State) (lines : List Line) (replies : List Reply) → Foretold layout (blank layout) lines replies last → IsFree last.session
none_stopped layout last lines replies f = foretold_free layout (blank layout) last lines replies tt f

module _ (laws : ForetellingLaws) (layout : Layout) where
  run_before : (lines : List Line) (replies : List Reply) (s : State) (l : Line) → IsFree s.session → Run layout lines replies s → Run layout lines replies (before layout s l)
  run_before lines replies s l free run =
      elim (goes_by_points l) as (λ m. Run layout lines replies (if m then risen_in layout.protect s s.session else s)) [
        | true ↦ laws.runs.drifts layout lines replies s (risen_in layout.protect s s.session) run
            (rise_drifts layout (laws.join layout) s s.session refl (can_rise layout s s.session (laws.sound layout lines replies s run) free))
        | false ↦ run
      ]

  run_line : (lines : List Line) (replies : List Reply) (s new : State) (l : Line) (reply : Reply) → IsFree s.session → Run layout lines replies s → allowed layout s.session l ≡ true → Does layout (before layout s l) l reply new →
      Run layout (lines ++ l ∷ []) (replies ++ reply ∷ []) new
  run_line lines replies s new l reply free run may d =
      let mid = before layout s l in
      let ran : Run layout lines replies mid = run_before lines replies s l free run in
      laws.runs.steps layout lines replies mid new l reply ran
      (subst (λ (x : Session). allowed layout x l ≡ true) (sym (before_session layout s l)) may, (points_for layout mid l, laws.goes layout mid l (laws.runs.falls layout lines replies mid ran), Whole d))

  runs_on : (done : List Line) (said : List Reply) (s last : State) (lines : List Line) (replies : List Reply) → IsFree s.session → Run layout done said s → Foretold layout s lines replies last →
      Run layout (done ++ lines) (said ++ replies) last
  runs_on done said s last [] [] free run f =
      subst (λ (x : State). Run layout (done ++ []) (said ++ []) x) (sym f)
      (subst (λ (ls : List Line). Run layout ls (said ++ []) s) (sym (append-nil done))
      (subst (λ (rs : List Reply). Run layout done rs s) (sym (append-nil said)) run))
  runs_on done said s last (k ∷ lines) (x ∷ replies) free run f =
      subst (λ (ls : List Line). Run layout ls (said ++ x ∷ replies) last) (append_assoc done (k ∷ []) lines)
      (subst (λ (rs : List Reply). Run layout ((done ++ k ∷ []) ++ lines) rs last) (append_assoc said (x ∷ []) replies)
      (runs_on (done ++ k ∷ []) (said ++ x ∷ []) f.0 last lines replies ((line_leads layout s k x f.0 f.2).free free) (run_line done said s f.0 k x free run f.1 f.2) f.3))
  runs_on done said s last _ _ free run f = absurd f

  -- what is foretold from the start on
  pub foretold_runs : (lines : List Line) (replies : List Reply) (last : State) → Foretold layout (blank layout) lines replies last → Run layout lines replies last
  foretold_runs lines replies last f = runs_on [] [] (blank layout) last lines replies tt (no_run layout) f
