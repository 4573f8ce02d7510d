-- How a backup's node stands, as far as its lines are refused by that, and how lines move it, whatever its disks tell.
use Rattle.std.specs.Prelude.{◌≡◌, true, Option, Some, None, is_some, Result, IfOk}
use Rattle.rdf_types.specs.declared.records.Phase.{Phase}
use Rattle.rdf_types.specs.declared.records.Phase.TheVariants.{Taken}
use Rattle.rdf_disk.specs.declared.disk.Disk.{Ghosts}
use Rattle.plan_lang.specs.declared.lines.Line.{Line}
use Rattle.plan_lang.specs.declared.lines.Line.TheVariants as line
use Rattle.node_faults.specs.declared.NodeFault.{NodeFault}
use Rattle.rdf_core.specs.declared.replies.Reply.{Reply}
use Rattle.rdf_core.specs.declared.replies.Reply.TheVariants.{Done, Number, Stopped}
use Rattle.rdf_backup.specs.declared.backup.Backup.{Backup}
use Rattle.rdf_backup.specs.States.{value_of}
use Rattle.backup_node.specs.declared.node.BackupNode.{BackupNode}

-- the phase of a backup that is up; of one that is down none is in memory
abbrev pub phase_among : {D : Type 0} {d : Ghosts D} → Option (Backup D d) → Option Phase
phase_among None = None
phase_among (Some p) = Some (value_of p).phase

abbrev pub phase_at : {D : Type 0} {d : Ghosts D} → BackupNode D d → Option Phase
phase_at n = phase_among n.backup

-- a stop takes the node down, and any other reply leaves it as it stands
abbrev pub Stays : Reply → Option Phase → Option Phase → Type 0
Stays (Stopped node) old new = new ≡ None
Stays _ old new = new ≡ old

-- so does a cut that is done
abbrev pub Falls : Reply → Option Phase → Option Phase → Type 0
Falls (Stopped node) old new = new ≡ None
Falls Done old new = new ≡ None
Falls _ old new = new ≡ old

-- a restart that is done takes it up, in the phase that its disk tells
abbrev pub Rises : Reply → Option Phase → Option Phase → Type 0
Rises (Stopped node) old new = new ≡ None
Rises (Number n) old new = is_some new ≡ true
Rises _ old new = new ≡ old

-- a takeover that is done leaves the phase of one up to the position that it tells
abbrev pub TakesOver : Reply → Option Phase → Option Phase → Type 0
TakesOver (Stopped node) old new = new ≡ None
TakesOver (Number n) old new = new ≡ Some (Taken n)
TakesOver _ old new = new ≡ old

-- how a line with that reply moves the node
abbrev pub Moves : Line → Reply → Option Phase → Option Phase → Type 0
Moves (line.Cut node) reply old new = Falls reply old new
Moves (line.Restart node) reply old new = Rises reply old new
Moves (line.Takeover node) reply old new = TakesOver reply old new
Moves _ reply old new = Stays reply old new

-- so a line moved it
abbrev pub IsMoved : {D : Type 0} {d : Ghosts D} → Line → Result Reply NodeFault → BackupNode D d → BackupNode D d → Type 0
IsMoved l result old new = IfOk result (λ reply. Moves l reply (phase_at old) (phase_at new))
