-- What the machine does with an event: the choices of a run, made.
use Rattle.std.specs.Prelude.{◌≡◌, ℕ, ◌≤◌, List, [], ◌∷◌, length, Option, Some, None, IsTrue}
use Rattle.rdf_types.specs.declared.layout.Layout.{Layout}
use Rattle.rdf_types.specs.declared.records.Node.{Node}
use Rattle.plan_lang.specs.declared.lines.Line.{Line}
use Rattle.plan_lang.specs.declared.lines.Line.TheVariants as line
use Rattle.rdf_core.specs.declared.events.Event.{Event}
use Rattle.rdf_core.specs.declared.events.Event.TheVariants as event
use Rattle.rdf_core.specs.declared.replies.Reply.{Reply}
use Rattle.rdf_core.specs.declared.replies.Reply.TheVariants.{Stopped}
use Rattle.rdf_core.specs.Effects.{IsDone, after_parts, reaches_disks, parts_unless}
use Rattle.rdf_core.specs.State.{State, fallen}
use Rattle.rdf_core.specs.Lines.{refusal, kept, parts, after, says}
use Rattle.rdf_core.specs.Allowed.{allowed}
use Rattle.rdf_core.specs.Step.{disks_of, points_now}
use Rattle.rdf_core.specs.Run.{CanMove, after_move}

-- a purge goes by the present points
abbrev pub points_for : Layout → State → Line → List ℕ
points_for layout s (line.Purge node) = points_now layout s node
points_for layout s _ = []

-- the line is refused, or done
abbrev pub Does : Layout → State → Line → Reply → State → Type 0
Does layout old l reply new = IsDone (refusal layout old l) (kept old l) (after layout (points_for layout old l) old l) (says layout (points_for layout old l) old l) reply new

-- its durable parts, where it is not refused
abbrev pub parts_of : Layout → State → Line → List State
parts_of layout s l = parts_unless (refusal layout s l) (parts layout (points_for layout s l) s l)

-- a stop of one disk of the node cuts the line off after so many of them
abbrev pub Stops : Layout → State → Node → Line → ℕ → Reply → State → Type 0
Stops layout old node l done reply new = (reply ≡ Stopped node) × (new ≡ fallen node 1 (after_parts old (parts_of layout old l) done))

-- lines are answered, and volumes of the open session move and stop without an answer
abbrev pub Happens : Layout → State → Event → Option Reply → State → Type 0
Happens layout old (event.Do l) (Some reply) new = Does layout old l reply new
Happens layout old (event.Apply vol upto) None new = new ≡ after_move 1 old (event.Apply vol upto)
Happens layout old (event.Halt vol) None new = new ≡ after_move 1 old (event.Halt vol)
Happens layout old (event.Stop node l done) (Some reply) new = Stops layout old node l done reply new
Happens layout old (event.Do l) None new = ⊥
Happens layout old (event.Apply vol upto) (Some reply) new = ⊥
Happens layout old (event.Halt vol) (Some reply) new = ⊥
Happens layout old (event.Stop node l done) None new = ⊥

-- a plan may have the line here, and a stop of a disk of the node may cut it off after so many of its durable parts
pub record CanStop (layout : Layout) (s : State) (node : Node) (l : Line) (done : ℕ) : Type 0 where
  pub may : IsTrue (allowed layout s.session l)
  pub of : disks_of l ≡ Some node
  pub reaches : IsTrue (reaches_disks (refusal layout s l))
  pub few : done ≤ length (parts_of layout s l)

-- the state admits the event
abbrev pub Admits : Layout → State → Event → Type 0
Admits layout s (event.Do l) = IsTrue (allowed layout s.session l)
Admits layout s (event.Apply vol upto) = CanMove layout s (event.Apply vol upto)
Admits layout s (event.Halt vol) = CanMove layout s (event.Halt vol)
Admits layout s (event.Stop node l done) = CanStop layout s node l done

-- the line of an event, where it has one
abbrev pub line_of : Event → List Line
line_of (event.Do l) = l ∷ []
line_of (event.Apply vol upto) = []
line_of (event.Halt vol) = []
line_of (event.Stop node l done) = l ∷ []

-- the reply to an event, where it has one
abbrev pub reply_of : Option Reply → List Reply
reply_of None = []
reply_of (Some reply) = reply ∷ []
