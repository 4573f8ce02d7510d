-- A run goes on with what the machine does.
use Rattle.std.proofs.Common.{◌≡◌, ℕ, true, List, [], ◌++◌, Option, Some, None, Result, Ok, Err, IfOk, OnErr, refl, sym, subst}
use Rattle.rdf_types.specs.declared.layout.Layout.{Layout}
use Rattle.rdf_types.specs.declared.records.Node.{Node}
use Rattle.plan_lang.specs.declared.lines.Line.{Line}
use Rattle.rdf_core.specs.declared.events.Event.{Event}
use Rattle.rdf_core.specs.declared.events.Event.TheVariants as event
use Rattle.rdf_core.specs.declared.replies.Reply.{Reply}
use Rattle.rdf_core.specs.Allowed.{allowed}
use Rattle.rdf_core.specs.Happens.{Admits, CanStop, Does, Happens, Stops, line_of, reply_of}
use Rattle.rdf_core.specs.Run.{CanMove, Run, after_move}
use Rattle.rdf_core.specs.State.{State, blank}
use Rattle.rdf_machine.specs.declared.parts.Parts.{Parts}
use Rattle.rdf_machine.specs.Machines.{AreFitted, AreKept, IsReached, state_of}

abbrev pub EventGoesOn : Type 0
EventGoesOn = (layout : Layout) (lines : List Line) (replies : List Reply) (s : State) (e : Event) (answer : Option Reply) (new : State) → Run layout lines replies s → Admits layout s e → Happens layout s e answer new →
    Run layout (lines ++ line_of e) (replies ++ reply_of answer) new

happens : EventGoesOn → (layout : Layout) (old new : State) (e : Event) (answer : Option Reply) → IsReached layout old → Admits layout old e → Happens layout old e answer new → IsReached layout new
happens law layout old new e answer r a h = (r.0 ++ line_of e, r.1 ++ reply_of answer, law layout r.0 r.1 old e answer new r.2 a h)

module _ (law : EventGoesOn) (layout : Layout) (p q : Parts) (fitted : AreFitted layout p) (kept : AreKept layout q) where
  same_fitted : state_of q ≡ state_of p → AreFitted layout q
  same_fitted e = record { kept = kept; reached = subst (IsReached layout) (sym e) fitted.reached }

  -- after a line
  pub line_fitted : {E : Type 0} (r : Result Reply E) (l : Line) → allowed layout (state_of p).session l ≡ true → IfOk r (λ reply. Does layout (state_of p) l reply (state_of q)) → OnErr r (state_of q ≡ state_of p) → AreFitted layout q
  line_fitted (Ok reply) l may h g = record { kept = kept; reached = happens law layout (state_of p) (state_of q) (event.Do l) (Some reply) fitted.reached may h }
  line_fitted (Err x) l may h g = same_fitted g

  -- after a stop
  pub stop_fitted : {E : Type 0} (r : Result Reply E) (node : Node) (l : Line) (done : ℕ) → CanStop layout (state_of p) node l done → IfOk r (λ reply. Stops layout (state_of p) node l done reply (state_of q)) → OnErr r (state_of q ≡ state_of p) → AreFitted layout q
  stop_fitted (Ok reply) node l done can h g = record { kept = kept; reached = happens law layout (state_of p) (state_of q) (event.Stop node l done) (Some reply) fitted.reached can h }
  stop_fitted (Err x) node l done can h g = same_fitted g

  -- and where a volume moves, or its disk stops
  pub rise_fitted : (vol upto : ℕ) → CanMove layout (state_of p) (event.Apply vol upto) → state_of q ≡ after_move 1 (state_of p) (event.Apply vol upto) → AreFitted layout q
  rise_fitted vol upto can h = record { kept = kept; reached = happens law layout (state_of p) (state_of q) (event.Apply vol upto) None fitted.reached can h }

  pub halt_fitted : (vol : ℕ) → CanMove layout (state_of p) (event.Halt vol) → state_of q ≡ after_move 1 (state_of p) (event.Halt vol) → AreFitted layout q
  halt_fitted vol can h = record { kept = kept; reached = happens law layout (state_of p) (state_of q) (event.Halt vol) None fitted.reached can h }

-- the start is reached by no line at all
pub blank_fitted : (layout : Layout) (p : Parts) → state_of p ≡ blank layout → AreKept layout p → AreFitted layout p
blank_fitted layout p e kept = record { kept = kept; reached = ([], [], subst (Run layout [] []) (sym e) ([], refl)) }
