-- How a backup's node stands, as far as lines are refused by that, and how a line moves each node, whatever their disks tell.
use Rattle.std.specs.Prelude.{◌≡◌, ◌⊎◌, if◌then◌else◌, Option, Some, None}
use Rattle.rdf_types.specs.declared.records.Node.{Node}
use Rattle.rdf_types.specs.declared.records.Phase.{Phase}
use Rattle.rdf_disk.specs.declared.disk.Disk.{Ghosts}
use Rattle.plan_lang.specs.declared.lines.Line.{Line}
use Rattle.rdf_core.specs.declared.events.Standing.{Standing}
use Rattle.rdf_core.specs.declared.replies.Reply.{Reply}
use Rattle.rdf_core.specs.declared.replies.Reply.TheVariants.{Stopped}
use Rattle.primary_node.specs.Moves.{standing_behind}
use Rattle.backup_node.specs.declared.node.BackupNode.{BackupNode}
use Rattle.backup_node.specs.Moves.{phase_at, Moves}
use Rattle.rdf_system.specs.declared.system.System.{System}
use Rattle.rdf_system.specs.OnNodes.{is_on_primary, is_done_by, site_at}

-- the phase in memory of a backup that is up; of one that is down, or that the layout does not have, there is none
abbrev pub phase_in : {D : Type 0} {d : Ghosts D} → Option (BackupNode D d) → Option Phase
phase_in None = None
phase_in (Some n) = phase_at n

abbrev pub phase_of : {D : Type 0} {d : Ghosts D} → System D d → Node → Option Phase
phase_of sys name = phase_in (site_at sys name).node

-- how a line with that reply moves the node of that name: where the node does the line, as it moves that; any other line leaves it, or its reply tells that the node stopped
abbrev pub MovesAt : Node → Line → Reply → Option Phase → Option Phase → Type 0
MovesAt name l reply old new = (is_done_by name l → Moves l reply old new) × ((is_done_by name l → ⊥) → (new ≡ old) ⊎ ((reply ≡ Stopped name) × (new ≡ None)))

-- how the primary's node stands behind a line: where it does the line, as that moves it; any other line leaves it
abbrev pub primary_behind : Line → Reply → Standing → Standing
primary_behind l reply old = if is_on_primary l then standing_behind l reply old else old
