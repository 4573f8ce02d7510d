-- A system that is where some run of the machine leads, behind a line more.
use Rattle.std.proofs.Common.{◌≡◌, suc, ◌<◌, List, [], ◌∷◌, ◌++◌, None, Result, Ok, Err, refl, sym, subst, arith}
use Rattle.std.specs.Prelude.{OnOk}
use Rattle.rdf_types.specs.declared.layout.Layout.{Layout}
use Rattle.rdf_disk.specs.Counts.{Counts}
use Rattle.rdf_disk.specs.Files.{Disk}
use Rattle.rdf_disk.specs.declared.disk.Disk.{Ghosts}
use Rattle.plan_lang.specs.declared.lines.Line.{Line}
use Rattle.rdf_core.specs.declared.replies.Reply.{Reply}
use Rattle.rdf_core.specs.Run.{Drifts, Run}
use Rattle.rdf_core.specs.Sound.{NoneHasFallen}
use Rattle.rdf_core.specs.State.{State, blank}
use Rattle.rdf_core.specs.Step.{Step}
use Rattle.rdf_system.specs.declared.fault.StepFault.{StepFault}
use Rattle.rdf_system.specs.declared.system.System.{System}
use Rattle.rdf_system.specs.Sessions.{node_of, used_by}
use Rattle.rdf_system.specs.Stances.{stances_of, fresh}
use Rattle.rdf_system.specs.Starting.{HasStarted}
use Rattle.rdf_system.specs.States.{IsAtState, IsStood, MayServe, layout_of}
use Rattle.rdf_system.specs.Lines.{Follows, Performs}

-- no point falls in the open session of a run
abbrev pub NoneFalls : Type 0
NoneFalls = (layout : Layout) (lines : List Line) (replies : List Reply) (last : State) → Run layout lines replies last → NoneHasFallen layout last last.session

-- what may happen between two lines goes on with a run
abbrev pub DriftsOn : Type 0
DriftsOn = (layout : Layout) (lines : List Line) (replies : List Reply) (s new : State) → Run layout lines replies s → Drifts layout s new → Run layout lines replies new

-- so does a step
abbrev pub StepsOn : Type 0
StepsOn = (layout : Layout) (lines : List Line) (replies : List Reply) (s new : State) (l : Line) (reply : Reply) → Run layout lines replies s → Step layout s l reply new → Run layout (lines ++ l ∷ []) (replies ++ reply ∷ []) new

module _ {D : Type 0} {d : Ghosts D} (files : D → Disk) (l : Line) (old new : System D d) (laid : layout_of new ≡ layout_of old) (falls : NoneFalls) (drifts : DriftsOn) (steps : StepsOn) (stood : IsStood files old) where
  one : 0 < suc 0
  one = omega arith

  pub stood_on : (result : Result Reply StepFault) → Performs files l result old new → OnOk result (IsStood files new)
  stood_on (Err why) p = tt
  stood_on (Ok reply) p = record {
    lines = stood.lines ++ l ∷ [];
    replies = stood.replies ++ reply ∷ [];
    state = f.next;
    run = subst (λ (x : Layout). Run x (stood.lines ++ l ∷ []) (stood.replies ++ reply ∷ []) f.next) (sym laid)
        (steps (layout_of old) stood.lines stood.replies f.mid f.next l reply (drifts (layout_of old) stood.lines stood.replies stood.state f.mid stood.run f.drifts) f.step);
    at = subst (λ (x : Layout). IsAtState files x f.next new) (sym laid) f.at;
  }
    where
      f : Follows files (layout_of old) stood.state (used_by old.session l) l (suc 0) reply new
      f = p (layout_of old) stood.state (suc 0) one (falls (layout_of old) stood.lines stood.replies stood.state stood.run) stood.at

-- a system that is at the start is where the run of no line leads
pub has_started : {D : Type 0} {d : Ghosts D} {tells : Type 0} {files : D → Disk} {counts : D → Counts} {layout : Layout} {sys : System D d} → (tells → IsAtState files layout (blank layout) sys) → MayServe tells files counts sys →
    layout_of sys ≡ layout → node_of sys.session ≡ None → stances_of sys ≡ fresh layout → HasStarted tells files counts layout sys
has_started {files = files} {layout = layout} {sys = sys} at serves laid closed stands = record {
  at = at;
  serves = serves;
  laid = laid;
  closed = closed;
  stands = stands;
  stood = λ t. record {
    lines = [];
    replies = [];
    state = blank layout;
    run = subst (λ (x : Layout). Run x [] [] (blank layout)) (sym laid) ([], refl);
    at = subst (λ (x : Layout). IsAtState files x (blank layout) sys) (sym laid) (at t);
  };
}
