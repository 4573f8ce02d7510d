-- Whole runs.
use Rattle.std.specs.Prelude.{◌≡◌, ℕ, ◌<◌, List, [], ◌∷◌}
use Rattle.rdf_types.specs.declared.layout.Layout.{Layout}
use Rattle.plan_lang.specs.declared.lines.Line.{Line}
use Rattle.rdf_core.specs.declared.events.Event.{Event}
use Rattle.rdf_core.specs.declared.events.Event.TheVariants as event
use Rattle.rdf_core.specs.declared.replies.Reply.{Reply}
use Rattle.rdf_core.specs.State.{State, blank}
use Rattle.rdf_core.specs.Step.{Step, CanApply, CanHalt, after_apply, after_halt}

-- a volume of the open session can move so, or its disk can stop
abbrev pub CanMove : Layout → State → Event → Type 0
CanMove layout s (event.Apply vol upto) = CanApply layout s s.session vol upto
CanMove layout s (event.Halt vol) = CanHalt layout s.session vol
CanMove layout s _ = ⊥

-- where the disk of a volume stops, so many stops are counted
abbrev pub after_move : ℕ → State → Event → State
after_move rise s (event.Apply vol upto) = after_apply s s.session vol upto
after_move rise s (event.Halt vol) = after_halt rise s s.session vol
after_move rise s _ = s

-- volumes of the open session move and stop, one after another
abbrev pub Moves : Layout → State → List Event → State → Type 0
Moves layout old [] new = new ≡ old
Moves layout old (e ∷ events) new = CanMove layout old e × ((rise : ℕ) × ((0 < rise) × Moves layout (after_move rise old e) events new))

-- what may happen between two lines
abbrev pub Drifts : Layout → State → State → Type 0
Drifts layout old new = (events : List Event) × Moves layout old events new

-- the lines may have these replies, one after another
abbrev pub RunsFrom : Layout → State → List Line → List Reply → State → Type 0
RunsFrom layout old [] [] last = Drifts layout old last
RunsFrom layout old (l ∷ lines) (reply ∷ replies) last =
    (mid : State) × (next : State) × Drifts layout old mid × Step layout mid l reply next × RunsFrom layout next lines replies last
RunsFrom layout old [] (reply ∷ replies) last = ⊥
RunsFrom layout old (l ∷ lines) [] last = ⊥

-- so from the start
abbrev pub Run : Layout → List Line → List Reply → State → Type 0
Run layout lines replies last = RunsFrom layout (blank layout) lines replies last
