-- What each move and each step keep, whole runs keep.
use Rattle.std.proofs.Common.{ℕ, List, [], ◌∷◌, sym, subst}
use Rattle.rdf_types.specs.declared.layout.Layout.{Layout}
use Rattle.plan_lang.specs.declared.lines.Line.{Line}
use Rattle.rdf_core.specs.declared.events.Event.{Event}
use Rattle.rdf_core.specs.declared.replies.Reply.{Reply}
use Rattle.rdf_core.specs.State.{State}
use Rattle.rdf_core.specs.Step.{Step}
use Rattle.rdf_core.specs.Run.{CanMove, after_move, Moves, Drifts, RunsFrom}

module _ (P : State → Type 0) (layout : Layout) (moves : (rise : ℕ) (s : State) (e : Event) → CanMove layout s e → P s → P (after_move rise s e)) where
  moves_keep : (events : List Event) (old new : State) → Moves layout old events new → P old → P new
  moves_keep [] old new m p = subst P (sym m) p
  moves_keep (e ∷ events) old new m p = moves_keep events (after_move m.1.0 old e) new m.1.1.1 (moves m.1.0 old e m.0 p)

  pub drifts_keep : (old new : State) → Drifts layout old new → P old → P new
  drifts_keep old new d p = moves_keep d.0 old new d.1 p

  pub run_keeps : ((old : State) (l : Line) (reply : Reply) (new : State) → Step layout old l reply new → P old → P new) → (lines : List Line) (replies : List Reply) (old last : State) →
      RunsFrom layout old lines replies last → P old → P last
  run_keeps steps [] [] old last r p = drifts_keep old last r p
  run_keeps steps [] (reply ∷ replies) old last r p = absurd r
  run_keeps steps (l ∷ lines) [] old last r p = absurd r
  run_keeps steps (l ∷ lines) (reply ∷ replies) old last r p = run_keeps steps lines replies r.1 last r.4 (steps r.0 l reply r.1 r.3 (drifts_keep old r.0 r.2 p))
