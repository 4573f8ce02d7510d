-- What a restart of a backup finds and leaves.
use Rattle.std.specs.Prelude.{◌≡◌, ℕ, Bool, true, false, ◌&&◌, ◌==◌, nat_le, List, None}
use Rattle.rdf_types.specs.declared.layout.Layout.{Layout}
use Rattle.rdf_types.specs.declared.records.Record.{Record}
use Rattle.rdf_disk.specs.Files.{Disk}
use Rattle.rdf_disk.specs.Outcomes.{Durably}
use Rattle.rdf_disk.specs.declared.disk.Disk.{Ghosts}
use Rattle.image_trails.specs.declared.trails.ImageTrails.{ImageTrails}
use Rattle.rdf_volume.specs.declared.volume.Volume.{Volume}
use Rattle.rdf_volume.specs.Views.{rows_of, restart_of, file_of, disk_of, InUse}
use Rattle.rdf_gatelog.specs.declared.fault.LogFault.{LogFault}
use Rattle.rdf_gatelog.specs.declared.fault.LogFault.TheVariants.{Damaged}
use Rattle.rdf_core.specs.Layouts.{protects, point_of}
use Rattle.rdf_core.specs.Backup.{Backup as State, Volumes, Running, Taking, Taken, kept_of, with_up}
use Rattle.rdf_backup.specs.declared.backup.Backup.{Backup}
use Rattle.node_disks.specs.declared.opening.Opening.{Opening}
use Rattle.rdf_backup.specs.Standing.{IsShown, VolumeStandsFor, DiskStandsFor}
use Rattle.rdf_backup.specs.States.{state_of, Serves}

-- what the disk of that number stood for, it stands for
abbrev pub KeepsStanding : {D : Type 0} → (D → Disk) → Layout → ℕ → D → D → Type 0
KeepsStanding files layout n x y = (trail : List Record) (b : State) → Durably (files x) (DiskStandsFor layout trail b n) → Durably (files y) (DiskStandsFor layout trail b n)

-- the volume v that was opened over the disk may be used, and shows what the disk stood for
abbrev pub IsFound : {D : Type 0} → (D → Disk) → Layout → ℕ → D → Volume D → Type 0
IsFound files layout v x volume = (trail : List Record) (b : State) → Durably (files x) (VolumeStandsFor layout trail b v) → InUse files volume × IsShown layout trail b v (rows_of volume) (restart_of volume)

-- a volume that is not protected stands at 0
abbrev pub AreAtZero : Layout → Volumes → Type 0
AreAtZero layout (Running points) = (v : ℕ) → protects layout v ≡ false → point_of points v ≡ 0
AreAtZero layout Taking = Unit {0}
AreAtZero layout (Taken upto) = Unit {0}

-- it is the backup that the disks stood for, up
pub record IsUpAgain {D : Type 0} {d : Ghosts D} (files : D → Disk) (trail : List Record) (b : State) (new : Backup D d) : Type 0 where
  pub state : state_of b.stops new ≡ with_up b true
  pub serves : Serves files trail new

-- the restart point is where a volume's may be
abbrev pub is_in_place : Bool → ℕ → ℕ → ℕ → Bool
is_in_place true kept received at = nat_le kept at && nat_le at received
is_in_place false kept received at = at == 0

-- the volume was not opened, and its disk came back: its restart point is not where a volume's may be
abbrev pub IsMisplaced : {D : Type 0} → Bool → ℕ → ℕ → Volume D → D → LogFault → Type 0
IsMisplaced protected kept received volume disk fault = (disk ≡ disk_of volume) × (fault ≡ Damaged (file_of volume) 0) × (is_in_place protected kept received (restart_of volume) ≡ false)

-- the backup keeps and has received so much
pub record HasSpan (b : State) (kept received : ℕ) : Type 0 where
  pub from : kept_of b ≡ kept
  pub upto : b.received ≡ received

-- the backup is of these image trails, volumes and open transactions
pub record IsMadeOf {D : Type 0} {d : Ghosts D} (trails : ImageTrails D) (o : Opening D (Volume D)) (opens : List (ℕ × ℕ)) (b : Backup D d) : Type 0 where
  pub no_fault : o.fault ≡ None
  pub trails_are : b.trails ≡ trails
  pub volumes_are : b.volumes ≡ o.opened
  pub txns_are : b.txns ≡ opens
