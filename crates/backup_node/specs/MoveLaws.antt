-- Laws of how lines move a backup's node.
use Rattle.std.proofs.Common.{Option, None, refl}
use Rattle.rdf_types.specs.declared.records.Node.{Node}
use Rattle.rdf_types.specs.declared.records.Phase.{Phase}
use Rattle.plan_lang.specs.declared.lines.Line.{Line}
use Rattle.plan_lang.specs.declared.lines.Line.TheVariants as line
use Rattle.rdf_core.specs.declared.replies.NoWhy.{NoWhy}
use Rattle.rdf_core.specs.declared.replies.Reply.TheVariants.{No, Stopped}
use Rattle.backup_node.specs.Moves.{Moves}

-- a stop takes the node down, at any line
pub moves_stopped : (l : Line) (name : Node) (old : Option Phase) → Moves l (Stopped name) old None
moves_stopped (line.Cut node) name old = refl
moves_stopped (line.Restart node) name old = refl
moves_stopped (line.Takeover node) name old = refl
moves_stopped _ name old = refl

-- and a refusal leaves it
pub moves_no : (l : Line) (why : NoWhy) (old : Option Phase) → Moves l (No why) old old
moves_no (line.Cut node) why old = refl
moves_no (line.Restart node) why old = refl
moves_no (line.Takeover node) why old = refl
moves_no _ why old = refl
