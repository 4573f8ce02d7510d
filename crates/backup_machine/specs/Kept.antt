-- A backup as the machine keeps it: what it means, and what is noted of the records that it received.
use Rattle.std.specs.Prelude.{◌≡◌, ℕ, ◌≤◌, List, length, take}
use Rattle.rdf_types.specs.declared.layout.Layout.{Layout}
use Rattle.rdf_types.specs.declared.records.Record.{Record}
use Rattle.rdf_model.specs.Contents.{nothing}
use Rattle.rdf_model.specs.Legal.{Legal}
use Rattle.rdf_model.specs.Window.{low, part}
use Rattle.open_txns.specs.Noted.{all_noted}
use Rattle.rdf_core.specs.Layouts.{protects}
use Rattle.rdf_core.specs.Backup.{Backup, Volumes, Running, Taking, Taken, Around, points_in}
use Rattle.backup_machine.specs.declared.volumes.VolumesState.{VolumesState}
use Rattle.backup_machine.specs.declared.volumes.VolumesState.TheVariants as state
use Rattle.backup_machine.specs.declared.backup.BackupState.{BackupState}
use Rattle.backup_machine.specs.declared.line.Outside.{Outside}

-- how far the volumes are
abbrev pub volumes_of : VolumesState → Volumes
volumes_of (state.Running points) = Running points
volumes_of state.Taking = Taking
volumes_of (state.Taken upto) = Taken upto

-- the backup
abbrev pub backup_of : BackupState → Backup
backup_of b = record { up = b.up; received = b.received; starts = b.starts; number = b.number; volumes = volumes_of b.volumes; stops = b.stops }

-- the open transactions are those of so many first records
abbrev pub AreNoted : Layout → List Record → ℕ → List (ℕ × ℕ) → Type 0
AreNoted layout trail n opens = opens ≡ all_noted (part (protects layout) 0 (take n trail))

-- the low position that is kept is that of the prefix that was taken
abbrev pub IsLowAt : Layout → List Record → VolumesState → ℕ → Type 0
IsLowAt layout trail (state.Running points) at = Unit {0}
IsLowAt layout trail state.Taking at = Unit {0}
IsLowAt layout trail (state.Taken upto) at = at ≡ low (protects layout) (take upto trail)

-- what is noted is of a prefix of the received records
pub record IsKept (layout : Layout) (trail : List Record) (b : BackupState) : Type 0 where
  pub early : b.noted ≤ b.received
  pub opens : AreNoted layout trail b.noted b.opens
  pub low : IsLowAt layout trail b.volumes b.low

-- the same, of a backup that received a prefix of a legal trail
pub record Follows (layout : Layout) (trail : List Record) (b : BackupState) : Type 0 where
  pub kept : IsKept layout trail b
  pub within : b.received ≤ length trail
  pub legal : Legal nothing trail

-- what is kept stays kept, over any trail
abbrev pub Keeps : BackupState → BackupState → Type 0
Keeps old new = (layout : Layout) (trail : List Record) → IsKept layout trail old → IsKept layout trail new

-- what a line on the backup needs of the rest
abbrev pub around_by : Layout → List Record → Outside → Backup → BackupState → Around
around_by layout trail outside lead b = record { trail = trail; lost = outside.lost; message = outside.message; lead = lead; points = points_in layout trail (backup_of b).volumes }
