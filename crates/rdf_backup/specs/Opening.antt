-- How the disks of a backup are opened: blank ones, and those of a backup that was down.
use Rattle.std.specs.Prelude.{◌≡◌, ℕ, suc, false, List, None, Some}
use Rattle.rdf_types.specs.declared.layout.Layout.{Layout}
use Rattle.rdf_types.specs.declared.records.Phase.TheVariants.{Running}
use Rattle.rdf_types.specs.declared.records.Record.{Record}
use Rattle.rdf_disk.specs.Files.{Disk}
use Rattle.rdf_disk.specs.Counts.{Counts, turned_on}
use Rattle.rdf_disk.specs.Outcomes.{Durably, seen_of}
use Rattle.rdf_disk.specs.declared.disk.Disk.{Ghosts}
use Rattle.rdf_gatelog.specs.declared.fault.LogFault.{LogFault}
use Rattle.rdf_gatelog.specs.declared.fault.LogFault.TheVariants.{Damaged}
use Rattle.rdf_gatelog.specs.LogCauses.{ending_of_fault}
use Rattle.rdf_model.specs.Contents.{nothing}
use Rattle.rdf_model.specs.Legal.{Legal}
use Rattle.image_disks.specs.Flaws.{IsFlaw as IsTrailFlaw}
use Rattle.image_disks.specs.Held.{Holds}
use Rattle.image_disks.specs.Spelled.{block_of}
use Rattle.image_disks.specs.Standing.{StandsFor as StandsForValue}
use Rattle.image_disks.specs.Values.{Alike, fresh}
use Rattle.image_trails.specs.declared.trails.ImageTrails.{ImageTrails}
use Rattle.image_trails.specs.Memory.{IsInUse, plan_of, value_in}
use Rattle.rdf_volume.specs.declared.volume.Volume.{Volume}
use Rattle.rdf_volume.specs.Views.{disk_of}
use Rattle.node_faults.specs.declared.Shut.{Shut}
use Rattle.node_faults.specs.Faults.{IsNamed}
use Rattle.node_faults.specs.Openings.{IsNoDamage, Rises, AreCaused, AreRaised, AreOn}
use Rattle.rdf_core.specs.Backup.{Backup as State}
use Rattle.rdf_core.specs.Layouts.{protects}
use Rattle.rdf_core.specs.Sound.{IsSound}
use Rattle.rdf_core.specs.State.{blank_backup}
use Rattle.rdf_backup.specs.declared.backup.Backup.{Backup}
use Rattle.rdf_backup.specs.Damage.{IsVolumeFlaw, IsFlawIn}
use Rattle.rdf_backup.specs.Restarting.{KeepsStanding, IsFound, AreAtZero, IsUpAgain, HasSpan}
use Rattle.rdf_backup.specs.Standing.{IsValueOf, TrailsStandFor, VolumeStandsFor, BackupStandsFor}
use Rattle.rdf_backup.specs.States.{state_of, value_of, layout_of, disks_in, MayUse, Serves, Stands}

-- the disk is that of image trails with the first generation and no image; it is on, and counts as before
pub record IsNewTrails {D : Type 0} (tells : Type 0) (files : D → Disk) (counts : D → Counts) (layout : Layout) (x : D) (trails : ImageTrails D) : Type 0 where
  pub in_use : tells → IsInUse block_of trails.memory (files trails.disk)
  pub value : Alike (value_in trails.memory) (fresh 0)
  pub laid : trails.memory.layout ≡ layout
  pub on : (counts trails.disk).off ≡ false
  pub counts_are : counts trails.disk ≡ counts x

-- The disk was turned on. The image trails may be used, tell and hold what it stood for, and it stands for that still.
pub record IsOldTrails {D : Type 0} (tells : Type 0) (files : D → Disk) (counts : D → Counts) (layout : Layout) (x : D) (trails : ImageTrails D) : Type 0 where
  pub in_use : tells → IsInUse block_of trails.memory (files trails.disk)
  pub found : tells → (trail : List Record) (b : State) → Durably (files x) (TrailsStandFor layout trail b) → IsValueOf b (value_in trails.memory) × Holds (plan_of layout) trail (value_in trails.memory)
  pub value : tells → StandsForValue block_of (plan_of layout) (value_in trails.memory) (seen_of (files x))
  pub stands : tells → KeepsStanding files layout 0 x trails.disk
  pub laid : trails.memory.layout ≡ layout
  pub turned : counts trails.disk ≡ turned_on (counts x)

-- The image trails could not be opened. The disk stands for what it stood for, and damage is told only of one that stood for no backup, at a flaw.
pub record IsShutTrails {D : Type 0} (tells : Type 0) (files : D → Disk) (counts : D → Counts) (layout : Layout) (x y : D) (fault : LogFault) : Type 0 where
  pub keeps : tells → KeepsStanding files layout 0 x y
  pub cause : Rises (ending_of_fault fault) (counts x) (counts y)
  pub sound : tells → (trail : List Record) (b : State) → Durably (files x) (TrailsStandFor layout trail b) → (file at : ℕ) → fault ≡ Damaged file at → ⊥
  pub damaged : tells → (file at : ℕ) → fault ≡ Damaged file at → IsTrailFlaw block_of (plan_of layout) (seen_of (files x)) file at

-- the disk was turned on, and the volume v may be used and shows what it stood for
pub record IsOldVolume {D : Type 0} (tells : Type 0) (files : D → Disk) (counts : D → Counts) (layout : Layout) (v : ℕ) (x : D) (volume : Volume D) : Type 0 where
  pub found : tells → IsFound files layout v x volume
  pub turned : counts (disk_of volume) ≡ turned_on (counts x)

-- The volume v could not be opened where image trails keep so much. The disk stands for what it stood for, and damage is told only of one that stood for no such volume, at a flaw.
pub record IsShutVolume {D : Type 0} (tells : Type 0) (files : D → Disk) (counts : D → Counts) (layout : Layout) (kept received : ℕ) (v : ℕ) (x y : D) (fault : LogFault) : Type 0 where
  pub keeps : tells → KeepsStanding files layout (suc v) x y
  pub cause : Rises (ending_of_fault fault) (counts x) (counts y)
  pub sound : tells → (trail : List Record) (b : State) → HasSpan b kept received → IsSound layout trail b → Durably (files x) (VolumeStandsFor layout trail b v) → (file at : ℕ) → fault ≡ Damaged file at → ⊥
  pub damaged : tells → IsVolumeFlaw (protects layout v) kept received (seen_of (files x)) fault

-- a backup over disks without files has received nothing; it serves over any legal trail, its disks stand for it and are on, and none of their counts rose
pub record IsFormatted {D : Type 0} {d : Ghosts D} (tells : Type 0) (files : D → Disk) (counts : D → Counts) (layout : Layout) (disks : List D) (b : Backup D d) : Type 0 where
  pub state : state_of 0 b ≡ blank_backup layout
  pub phase : (value_of b).phase ≡ Running
  pub laid : layout_of b ≡ layout
  pub on : AreOn counts (disks_in b)
  pub usable : tells → MayUse files b
  pub serves : tells → (trail : List Record) → Legal nothing trail → Serves files trail b
  pub stands : tells → (trail : List Record) → Legal nothing trail → Stands files trail b
  pub cause : AreCaused counts None disks (disks_in b)

-- a backup that was down is up: it is the one that the disks stood for, which are on, and of their counts no fault, stop or fuse rose
pub record IsOpenAgain {D : Type 0} {d : Ghosts D} (tells : Type 0) (files : D → Disk) (counts : D → Counts) (layout : Layout) (disks : List D) (backup : Backup D d) : Type 0 where
  pub ok : tells → (trail : List Record) (b : State) → BackupStandsFor files layout trail b disks → AreAtZero layout b.volumes → IsUpAgain files trail b backup
  pub usable : tells → (trail : List Record) (b : State) → BackupStandsFor files layout trail b disks → MayUse files backup
  pub laid : layout_of backup ≡ layout
  pub on : AreOn counts (disks_in backup)
  pub cause : AreRaised counts None disks (disks_in backup)

-- It is down still: its disks come back in their order, and stand for what they stood for. The fault has its cause in the counts of its disk, and names no disk that the backup lacks.
-- Damage is told only of disks that stood for no backup, at a flaw of the disk that is named.
pub record IsStillDown {D : Type 0} (tells : Type 0) (files : D → Disk) (counts : D → Counts) (layout : Layout) (disks : List D) (shut : Shut D) : Type 0 where
  pub err : tells → (trail : List Record) (b : State) → BackupStandsFor files layout trail b disks → BackupStandsFor files layout trail b shut.disks.items
  pub cause : AreRaised counts (Some shut.fault) disks shut.disks.items
  pub named : IsNamed (suc layout.volumes) shut.fault
  pub sound : tells → (trail : List Record) (b : State) → BackupStandsFor files layout trail b disks → IsNoDamage (Some shut.fault)
  pub damaged : tells → IsFlawIn files layout disks shut.fault
