-- What a node does for a read in a session, and at its end.
use Rattle.std.specs.Prelude.{◌≡◌, ◌⊎◌, ℕ, List, IsTrue, Result, Ok, Err}
use Rattle.rdf_types.specs.declared.layout.Layout.{Layout}
use Rattle.rdf_types.specs.declared.records.Node.{Node}
use Rattle.rdf_types.specs.declared.records.RecKey.{RecKey}
use Rattle.rdf_types.specs.declared.records.Record.{Record}
use Rattle.rdf_disk.specs.Files.{Disk}
use Rattle.rdf_disk.specs.declared.disk.Disk.{Ghosts}
use Rattle.node_faults.specs.declared.NodeFault.{NodeFault}
use Rattle.rdf_core.specs.declared.replies.Reply.{Reply}
use Rattle.rdf_core.specs.declared.replies.Reply.TheVariants.{Number, Stopped}
use Rattle.rdf_core.specs.Backup.{Backup as State, backup_fallen}
use Rattle.rdf_core.specs.Layouts.{protects, points_at}
use Rattle.rdf_core.specs.Lines.{with_points}
use Rattle.rdf_core.specs.Rising.{HasRisen, read_answer}
use Rattle.backup_node.specs.declared.node.BackupNode.{BackupNode}
use Rattle.backup_node.specs.Nodes.{IsAt}

-- the node is down, and stands for a backup whose volumes had risen by then
pub record FellRisen {D : Type 0} {d : Ghosts D} (files : D → Disk) (layout : Layout) (trail : List Record) (b : State) (rise : ℕ) (new : BackupNode D d) : Type 0 where
  pub next : State
  pub rise_is : HasRisen layout b next
  pub at : IsAt files layout trail (backup_fallen rise next) new

-- a row was read of the backup, whose volumes had risen by then
pub record ReadAt {D : Type 0} {d : Ghosts D} (files : D → Disk) (layout : Layout) (trail : List Record) (key : RecKey) (b : State) (reply : Reply) (new : BackupNode D d) : Type 0 where
  pub next : State
  pub rise_is : HasRisen layout b next
  pub says : reply ≡ read_answer layout trail next key
  pub at : IsAt files layout trail next new

-- how a read ends on a node that is up and whose volumes run, where so many stops are counted
abbrev pub ReadEnds : {D : Type 0} {d : Ghosts D} → (D → Disk) → Layout → List Record → RecKey → Node → State → ℕ → Result Reply NodeFault → BackupNode D d → Type 0
ReadEnds files layout trail key name b rise (Ok reply) new = ReadAt files layout trail key b reply new ⊎ ((reply ≡ Stopped name) × IsTrue (protects layout key.vol) × FellRisen files layout trail b rise new)
ReadEnds files layout trail key name b rise (Err why) new = FellRisen files layout trail b 0 new

-- each protected volume shows all that was received
abbrev pub caught_up : Layout → State → State
caught_up layout b = with_points b (points_at layout b.received)

-- how the end of a session ends on such a node: a volume's disk may have stopped
abbrev pub EndEnds : {D : Type 0} {d : Ghosts D} → (D → Disk) → Layout → List Record → Node → State → ℕ → Result Reply NodeFault → BackupNode D d → Type 0
EndEnds files layout trail name b rise (Ok reply) new =
    ((reply ≡ Number b.received) × HasRisen layout b (caught_up layout b) × IsAt files layout trail (caught_up layout b) new)
    ⊎ ((reply ≡ Stopped name) × ((vol : ℕ) × (IsTrue (protects layout vol) × FellRisen files layout trail b rise new)))
EndEnds files layout trail name b rise (Err why) new = FellRisen files layout trail b 0 new
