-- How lines move the primary's node.
use Rattle.std.proofs.Common.{◌≡◌, Bool, true, false, Option, None, Result, IfOk, refl, sym, ap, ◌∙◌, subst}
use Rattle.rdf_types.specs.declared.records.Node.{Node}
use Rattle.rdf_disk.specs.declared.disk.Disk.{Ghosts}
use Rattle.plan_lang.specs.declared.lines.Line.{Line}
use Rattle.plan_lang.specs.declared.lines.Line.TheVariants as line
use Rattle.node_faults.specs.declared.NodeFault.{NodeFault}
use Rattle.node_faults.specs.declared.NodeFault.TheVariants as fault
use Rattle.rdf_types.specs.declared.records.Node.TheVariants.{A}
use Rattle.rdf_core.specs.declared.events.Standing.{Standing}
use Rattle.rdf_core.specs.declared.events.Standing.TheVariants.{Up, Down}
use Rattle.rdf_core.specs.declared.replies.NoWhy.{NoWhy}
use Rattle.rdf_core.specs.declared.replies.Reply.{Reply}
use Rattle.rdf_core.specs.declared.replies.Reply.TheVariants.{No, Stopped}
use Rattle.rdf_primary.specs.declared.primary.Primary.{Primary}
use Rattle.rdf_primary.specs.Replies.{IsAnswered}
use Rattle.rdf_primary.specs.Kinds.{MayAnswer}
use Rattle.primary_node.specs.declared.node.PrimaryNode.{PrimaryNode}
use Rattle.primary_node.specs.Nodes.{standing_off}
use Rattle.primary_node.specs.Lines.{stop_told, status_off}
use Rattle.primary_node.specs.Moves.{standing_by, standing_at, stays, standing_behind}

-- a refusal leaves it
pub no_moves : (l : Line) (why : NoWhy) (s : Standing) → s ≡ standing_behind l (No why) s
no_moves line.Lose why s = refl
no_moves (line.Cut node) why s = refl
no_moves (line.Restart node) why s = refl
no_moves _ why s = refl

-- a stop takes it down
pub stop_moves : (l : Line) (node : Node) (s : Standing) → Down ≡ standing_behind l (Stopped node) s
stop_moves line.Lose node s = refl
stop_moves (line.Cut of) node s = refl
stop_moves (line.Restart of) node s = refl
stop_moves _ node s = refl

-- what a primary that is up answers leaves it up
stays_up : (l : Line) (reply : Reply) → MayAnswer l reply → Up ≡ stays reply Up
stays_up l (Stopped node) m = absurd m
stays_up l _ m = refl

pub goes_moves : (l : Line) (reply : Reply) → IsAnswered l → MayAnswer l reply → Up ≡ standing_behind l reply Up
goes_moves line.Lose reply h m = absurd h
goes_moves (line.Cut node) reply h m = absurd h
goes_moves (line.Restart node) reply h m = absurd h
goes_moves l reply h m = stays_up l reply m

-- the status of a node that is not up
pub status_moves : (lost : Bool) (s : Standing) → s ≡ stays (status_off lost) s
status_moves true s = refl
status_moves false s = refl

module _ {D : Type 0} {d : Ghosts D} (new : PrimaryNode D d) (off : new.primary ≡ None) where
  -- a node without a primary
  pub stands_off : (lost : Bool) → new.lost ≡ lost → standing_at new ≡ standing_off lost
  stands_off lost is = ap (λ (o : Option (Primary D d)). standing_by o new.lost) off ∙ ap (λ b. standing_off b) is

  -- a fault that took the node down
  pub told_moves : (l : Line) (why : NodeFault) (result : Result Reply NodeFault) (s : Standing) → result ≡ stop_told why → new.lost ≡ false → IfOk result (λ reply. standing_at new ≡ standing_behind l reply s)
  told_moves l why result s is not_lost = subst (λ (r : Result Reply NodeFault). IfOk r (λ reply. standing_at new ≡ standing_behind l reply s)) (sym is) (by_why why)
    where
      by_why : (w : NodeFault) → IfOk (stop_told w) (λ reply. standing_at new ≡ standing_behind l reply s)
      by_why (fault.Stopped disk) = stands_off false not_lost ∙ stop_moves l A s
      by_why (fault.Failed disk) = tt
      by_why fault.NoMemory = tt
      by_why (fault.Damaged disk file at) = tt
