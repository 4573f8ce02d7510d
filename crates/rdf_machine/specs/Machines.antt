-- The machine: its parts as the state of the whole system, and what they keep to.
use Rattle.std.specs.Prelude.{ℕ, ◌≤◌, List}
use Rattle.rdf_types.specs.declared.layout.Layout.{Layout}
use Rattle.rdf_types.specs.declared.records.Record.{Record}
use Rattle.plan_lang.specs.declared.lines.Line.{Line}
use Rattle.rdf_core.specs.declared.replies.Reply.{Reply}
use Rattle.rdf_types.specs.declared.records.Node.{Node}
use Rattle.by_node.specs.Each.{at, map_each}
use Rattle.rdf_core.specs.State.{State}
use Rattle.rdf_core.specs.Run.{Run}
use Rattle.backup_machine.specs.declared.backup.BackupState.{BackupState}
use Rattle.backup_machine.specs.declared.volumes.VolumesState.{VolumesState}
use Rattle.backup_machine.specs.declared.volumes.VolumesState.TheVariants as state
use Rattle.backup_machine.specs.Kept.{Follows, IsKept, backup_of}
use Rattle.backup_machine.specs.Sessions.{session_of}
use Rattle.rdf_machine.specs.Index.{IsIndexOf}
use Rattle.rdf_machine.specs.declared.parts.Parts.{Parts}

-- a layout, and the state of the whole system
pub record Whole : Type 0 where
  pub layout : Layout
  pub state : State

-- the state of the whole system
abbrev pub state_of : Parts → State
state_of p = record {
  primary = p.primary;
  senders = p.senders;
  backups = map_each backup_of p.backups;
  session = session_of p.session;
}

-- what each backup noted is of the trail, and so is the index
pub record AreKept (layout : Layout) (p : Parts) : Type 0 where
  pub backups : (node : Node) → IsKept layout p.primary.trail (at p.backups node)
  pub index : IsIndexOf p.primary.trail p.index

-- what was taken lies within what was received
abbrev pub IsTakenWithin : VolumesState → ℕ → Type 0
IsTakenWithin (state.Running points) received = Unit {0}
IsTakenWithin state.Taking received = Unit {0}
IsTakenWithin (state.Taken upto) received = upto ≤ received

-- a backup received a prefix of the trail, which is legal
pub record IsFollowing (layout : Layout) (trail : List Record) (b : BackupState) : Type 0 where
  pub follows : Follows layout trail b
  pub taken : IsTakenWithin b.volumes b.received

-- and so did each of them
pub record AreFollowing (layout : Layout) (p : Parts) : Type 0 where
  pub backups : (node : Node) → IsFollowing layout p.primary.trail (at p.backups node)
  pub index : IsIndexOf p.primary.trail p.index

-- some run leads to the state
abbrev pub IsReached : Layout → State → Type 0
IsReached layout s = (lines : List Line) × (replies : List Reply) × Run layout lines replies s

-- the parts of a machine: a run leads to their state, and the notes are of its trail
pub record AreFitted (layout : Layout) (p : Parts) : Type 0 where
  pub kept : AreKept layout p
  pub reached : IsReached layout (state_of p)
