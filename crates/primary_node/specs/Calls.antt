-- What the node does for a line, with all that it tells.
use Rattle.std.specs.Prelude.{◌≡◌, Result}
use Rattle.rdf_disk.specs.Files.{Disk}
use Rattle.rdf_disk.specs.Counts.{Counts}
use Rattle.rdf_disk.specs.declared.disk.Disk.{Ghosts}
use Rattle.plan_lang.specs.declared.lines.Line.{Line}
use Rattle.node_faults.specs.declared.NodeFault.{NodeFault}
use Rattle.node_faults.specs.Faults.{IsSound}
use Rattle.rdf_core.specs.declared.replies.Reply.{Reply}
use Rattle.rdf_primary.specs.Replies.{Keeps}
use Rattle.primary_node.specs.declared.node.PrimaryNode.{PrimaryNode}
use Rattle.primary_node.specs.Nodes.{MayServe}
use Rattle.primary_node.specs.Lines.{Performs, IsCaused, IsFused, WasLooked}
use Rattle.primary_node.specs.Kinds.{IsReplied}
use Rattle.primary_node.specs.Moves.{IsMoved}

-- what the primary's node does for a line, whatever it answers, and the causes of that
pub record Does {D : Type 0} {d : Ghosts D} (tells : Type 0) (files : D → Disk) (counts : D → Counts) (l : Line) (result : Result Reply NodeFault) (old new : PrimaryNode D d) : Type 0 where
  -- it is at the state that a step of the machine leaves, or broken off
  pub performs : tells → Performs files l result old new
  -- it may be used again
  pub serves : MayServe tells files counts new
  -- it has as many volumes
  pub sized : new.volumes ≡ old.volumes
  -- every answer has its cause in the counts of its disks
  pub cause : IsCaused counts result old new
  -- over disks that tell no damage is told
  pub sound : tells → IsSound result
  -- a fuse that is done is counted at its disk, and no other is
  pub fuses : IsFused counts l result old new
  -- a refusal leaves what it found, over any disks
  pub kept : Keeps WasLooked result old new
  -- the reply follows from how the node stands, or is of the line's own kind
  pub kinds : IsReplied l result old
  -- how the node stands behind the line follows from the reply
  pub moved : IsMoved l result old new
