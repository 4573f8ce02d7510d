-- A run with one step more, by the laws of runs, and one that has begun.
use Rattle.std.proofs.Common.{List, [], ◌∷◌, ◌++◌, refl}
use Rattle.rdf_types.specs.declared.layout.Layout.{Layout}
use Rattle.plan_lang.specs.declared.lines.Line.{Line}
use Rattle.rdf_core.specs.declared.replies.Reply.{Reply}
use Rattle.rdf_core.specs.Sound.{NoneHasFallen}
use Rattle.rdf_core.specs.State.{State, blank}
use Rattle.rdf_core.specs.Step.{Step}
use Rattle.rdf_core.specs.Run.{Drifts, Run}

-- a run goes on by what may happen between two lines, and by a step; and no point of an open session has fallen at its end
pub record RunLaws : Type 0 where
  pub drifts : (layout : Layout) (lines : List Line) (replies : List Reply) (s new : State) → Run layout lines replies s → Drifts layout s new → Run layout lines replies new
  pub steps : (layout : Layout) (lines : List Line) (replies : List Reply) (s new : State) (l : Line) (reply : Reply) → Run layout lines replies s → Step layout s l reply new →
      Run layout (lines ++ l ∷ []) (replies ++ reply ∷ []) new
  pub falls : (layout : Layout) (lines : List Line) (replies : List Reply) (last : State) → Run layout lines replies last → NoneHasFallen layout last last.session

pub run_laws : ((layout : Layout) (lines : List Line) (replies : List Reply) (s new : State) → Run layout lines replies s → Drifts layout s new → Run layout lines replies new) →
    ((layout : Layout) (lines : List Line) (replies : List Reply) (s new : State) (l : Line) (reply : Reply) → Run layout lines replies s → Step layout s l reply new → Run layout (lines ++ l ∷ []) (replies ++ reply ∷ []) new) →
    ((layout : Layout) (lines : List Line) (replies : List Reply) (last : State) → Run layout lines replies last → NoneHasFallen layout last last.session) → RunLaws
run_laws drifts steps falls = record { drifts = drifts; steps = steps; falls = falls }

-- one step more, behind what may happen before it
pub runs_on : RunLaws → (layout : Layout) (lines : List Line) (replies : List Reply) (s mid new : State) (l : Line) (reply : Reply) → Run layout lines replies s → Drifts layout s mid → Step layout mid l reply new →
    Run layout (lines ++ l ∷ []) (replies ++ reply ∷ []) new
runs_on laws layout lines replies s mid new l reply run drifts step = laws.steps layout lines replies mid new l reply (laws.drifts layout lines replies s mid run drifts) step

-- no step yet
pub no_run : (layout : Layout) → Run layout [] [] (blank layout)
no_run layout = ([], refl)
