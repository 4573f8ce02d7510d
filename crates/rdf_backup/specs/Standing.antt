-- What the disks of a backup stand for. Disk 0 has the image trails, and disk 1 + v the volume v.
use Rattle.std.specs.Prelude.{◌≡◌, ℕ, zero, suc, ◌≤◌, Bool, true, false, List, length, take, slice_get, IfSome}
use Rattle.std.specs.FinMap.{empty}
use Rattle.rdf_types.specs.declared.layout.Layout.{Layout}
use Rattle.rdf_types.specs.declared.records.Record.{Record}
use Rattle.rdf_disk.specs.Files.{Disk, Contents}
use Rattle.rdf_disk.specs.Outcomes.{Durably, MayAll}
use Rattle.rdf_model.specs.Contents.{nothing}
use Rattle.rdf_model.specs.Trail.{raw, committed}
use Rattle.rdf_model.specs.Legal.{Legal}
use Rattle.rdf_model.specs.Volumes.{Rows, AreOn, shown}
use Rattle.rdf_model.specs.Window.{low, Fits}
use Rattle.image_disks.specs.Spelled.{block_of}
use Rattle.image_disks.specs.Values.{Value, received as received_of}
use Rattle.image_disks.specs.Standing.{StandsFor as StandsForValue}
use Rattle.image_disks.specs.Held.{Holds}
use Rattle.image_trails.specs.Memory.{plan_of}
use Rattle.rdf_volume.specs.Standing.{StandsFor}
use Rattle.rdf_core.specs.Layouts.{protects, point_of}
use Rattle.rdf_core.specs.Backup.{Backup, Volumes, Running, Taking, Taken, phase_of, kept_of}
use Rattle.rdf_core.specs.Sound.{IsSound}

-- what image trails tell of the backup: how far it has received, its generations, and its phase
pub record IsValueOf (b : Backup) (v : Value) : Type 0 where
  pub received_is : received_of v ≡ b.received
  pub starts_are : v.starts ≡ b.starts
  pub number_is : v.last ≡ b.number
  pub phase_is : v.phase ≡ phase_of b.volumes

-- the contents of disk 0 stand for the backup, and hold the trail
pub record TrailsStandFor (layout : Layout) (trail : List Record) (b : Backup) (c : Contents) : Type 0 where
  pub value : Value
  pub stands : StandsForValue block_of (plan_of layout) value c
  pub tells : IsValueOf b value
  pub holds : Holds (plan_of layout) trail value

-- Which rows and restart point a protected volume has: in Running the raw contents at its point, in Taken what was committed up to the end of the takeover.
-- While a takeover is under way, redo from the restart point reaches the raw contents of all that was received.
abbrev pub IsProtected : Layout → List Record → Backup → Volumes → ℕ → Rows → ℕ → Type 0
IsProtected layout trail b (Running points) v rows at = (at ≡ point_of points v) × AreOn v (raw nothing (take at trail)) rows
IsProtected layout trail b Taking v rows at = (kept_of b ≤ at) × (at ≤ b.received) × Fits v (take b.received trail) at (shown rows)
IsProtected layout trail b (Taken upto) v rows at = (at ≡ low (protects layout) (take upto trail)) × AreOn v (committed nothing (take upto trail)) rows

-- a volume that is not protected has no rows
abbrev pub IsShownIf : Bool → Layout → List Record → Backup → ℕ → Rows → ℕ → Type 0
IsShownIf true layout trail b v rows at = IsProtected layout trail b b.volumes v rows at
IsShownIf false layout trail b v rows at = (rows ≡ empty) × (at ≡ 0)

-- which rows and restart point the volume has
abbrev pub IsShown : Layout → List Record → Backup → ℕ → Rows → ℕ → Type 0
IsShown layout trail b v rows at = IsShownIf (protects layout v) layout trail b v rows at

-- the contents stand for the volume
pub record VolumeStandsFor (layout : Layout) (trail : List Record) (b : Backup) (v : ℕ) (c : Contents) : Type 0 where
  pub rows : Rows
  pub at : ℕ
  pub shows : IsShown layout trail b v rows at
  pub stands : StandsFor rows at c

-- the contents of the disk of that number stand for the backup
abbrev pub DiskStandsFor : Layout → List Record → Backup → ℕ → Contents → Type 0
DiskStandsFor layout trail b zero c = TrailsStandFor layout trail b c
DiskStandsFor layout trail b (suc v) c = VolumeStandsFor layout trail b v c

-- the disks durably stand for the backup over the trail, each for itself
pub record BackupStandsFor {D : Type 0} (files : D → Disk) (layout : Layout) (trail : List Record) (b : Backup) (disks : List D) : Type 0 where
  pub legal : Legal nothing trail
  pub sound : IsSound layout trail b
  pub count : length disks ≡ suc layout.volumes
  pub disk : (i : ℕ) → IfSome (slice_get disks i) (λ d. Durably (files d) (DiskStandsFor layout trail b i))

-- these may be the contents of the disks, by their numbers, or what stops leave of them
abbrev pub MayBe : {D : Type 0} → (D → Disk) → List D → (ℕ → Contents) → Type 0
MayBe files disks held = (i : ℕ) → IfSome (slice_get disks i) (λ d. MayAll (files d) (held i))

-- these contents of disks stand for the backup over the trail
pub record ContentsStandFor (layout : Layout) (trail : List Record) (b : Backup) (held : ℕ → Contents) : Type 0 where
  pub legal : Legal nothing trail
  pub sound : IsSound layout trail b
  pub disk : (i : ℕ) → i ≤ layout.volumes → DiskStandsFor layout trail b i (held i)

-- whatever stops leave of the disks stands for one of these backups, the first of them or one of so many behind it
pub record SomeStandsFor {D : Type 0} (files : D → Disk) (layout : Layout) (trail : List Record) (most : ℕ) (states : ℕ → Backup) (disks : List D) : Type 0 where
  pub count : length disks ≡ suc layout.volumes
  pub some : (held : ℕ → Contents) → MayBe files disks held → (n : ℕ) × ((n ≤ most) × ContentsStandFor layout trail (states n) held)
