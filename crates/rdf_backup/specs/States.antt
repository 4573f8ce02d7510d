-- The backup as the machine has it.
use Rattle.std.specs.Prelude.{◌≡◌, ℕ, ◌≤◌, true, List, map, take, slice_get, IfSome}
use Rattle.rdf_types.specs.declared.layout.Layout.{Layout}
use Rattle.rdf_types.specs.declared.records.Phase.{Phase}
use Rattle.rdf_types.specs.declared.records.Phase.TheVariants as phase
use Rattle.rdf_types.specs.declared.records.Record.{Record}
use Rattle.rdf_disk.specs.Files.{Disk}
use Rattle.rdf_disk.specs.declared.disk.Disk.{Ghosts}
use Rattle.rdf_model.specs.Contents.{nothing}
use Rattle.rdf_model.specs.Legal.{Legal}
use Rattle.rdf_model.specs.Window.{low, part}
use Rattle.open_txns.specs.Noted.{all_noted}
use Rattle.image_disks.specs.Values.{Value, received}
use Rattle.image_disks.specs.Held.{Holds}
use Rattle.image_trails.specs.Memory.{plan_of}
use Rattle.image_trails.specs.Trails.{trails_layout, trails_value, AreInUse}
use Rattle.rdf_volume.specs.declared.volume.Volume.{Volume}
use Rattle.rdf_volume.specs.Views.{rows_of, restart_of, InUse}
use Rattle.rdf_core.specs.Layouts.{protects}
use Rattle.rdf_core.specs.Backup.{Backup as State, Volumes, Running, Taking, Taken}
use Rattle.rdf_core.specs.Sound.{IsSound}
use Rattle.rdf_backup.specs.declared.backup.Backup.{Backup}
use Rattle.rdf_backup.specs.Disks.{disks_of}
use Rattle.rdf_backup.specs.Standing.{IsShown, BackupStandsFor}

-- how far the volumes are, by the phase and their restart points
abbrev pub volumes_by : Phase → List ℕ → Volumes
volumes_by phase.Running points = Running points
volumes_by phase.Taking points = Taking
volumes_by (phase.Taken upto) points = Taken upto

-- the state by what the image trails tell and by the volumes
abbrev pub state_by : {D : Type 0} → ℕ → Value → List (Volume D) → State
state_by stops v volumes = record { up = true; received = received v; starts = v.starts; number = v.last; volumes = volumes_by v.phase (map (λ volume. restart_of volume) volumes); stops = stops }

-- the layout of the system
abbrev pub layout_of : {D : Type 0} {d : Ghosts D} → Backup D d → Layout
layout_of s = trails_layout s.trails

-- what its image trails tell
abbrev pub value_of : {D : Type 0} {d : Ghosts D} → Backup D d → Value
value_of s = trails_value s.trails

-- the state of a backup that is up: its disks stopped so often before
abbrev pub state_of : {D : Type 0} {d : Ghosts D} → ℕ → Backup D d → State
state_of stops s = state_by stops (value_of s) s.volumes.items

-- the disks, in their order
abbrev pub disks_in : {D : Type 0} {d : Ghosts D} → Backup D d → List D
disks_in s = disks_of s.trails s.volumes.items

-- its image trails and its volumes may be used
pub record MayUse {D : Type 0} {d : Ghosts D} (files : D → Disk) (s : Backup D d) : Type 0 where
  pub trails : AreInUse files s.trails
  pub volume : (v : ℕ) → IfSome (slice_get s.volumes.items v) (λ volume. InUse files volume)

-- these are the open transactions of so many first records on the protected volumes, noted from a position up to the low one on
pub record AreOpen (layout : Layout) (trail : List Record) (upto : ℕ) (opens : List (ℕ × ℕ)) : Type 0 where
  pub start : ℕ
  pub early : start ≤ low (protects layout) (take upto trail)
  pub noted : opens ≡ all_noted (part (protects layout) start (take upto trail))

-- what the image trails tell, the volumes and the open transactions in memory are those of a backup over the trail
pub record AreOver {D : Type 0} (layout : Layout) (trail : List Record) (v : Value) (volumes : List (Volume D)) (opens : List (ℕ × ℕ)) : Type 0 where
  pub legal : Legal nothing trail
  pub sound : (stops : ℕ) → IsSound layout trail (state_by stops v volumes)
  pub holds : Holds (plan_of layout) trail v
  pub shown : (i : ℕ) → IfSome (slice_get volumes i) (λ volume. IsShown layout trail (state_by 0 v volumes) i (rows_of volume) (restart_of volume))
  pub open_ones : AreOpen layout trail (received v) opens

-- it may be used, and is a backup over the trail
pub record Serves {D : Type 0} {d : Ghosts D} (files : D → Disk) (trail : List Record) (s : Backup D d) : Type 0 where
  pub usable : MayUse files s
  pub over : AreOver (layout_of s) trail (value_of s) s.volumes.items s.txns

-- its disks stand for it as the machine has it
abbrev pub Stands : {D : Type 0} {d : Ghosts D} → (D → Disk) → List Record → Backup D d → Type 0
Stands files trail s = (stops : ℕ) → BackupStandsFor files (layout_of s) trail (state_of stops s) (disks_in s)
