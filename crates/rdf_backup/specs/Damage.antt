-- What is told to be damaged on a backup's disks.
use Rattle.std.specs.Prelude.{◌≡◌, ℕ, zero, suc, ◌<◌, ◌≤◌, Bool, false, List, slice_get, Some, ◌⊎◌, IsTrue}
use Rattle.rdf_types.specs.declared.layout.Layout.{Layout}
use Rattle.rdf_disk.specs.Files.{Disk, Contents}
use Rattle.rdf_disk.specs.Outcomes.{seen_of}
use Rattle.rdf_gatelog.specs.declared.fault.LogFault.{LogFault}
use Rattle.rdf_gatelog.specs.declared.fault.LogFault.TheVariants as log
use Rattle.rdf_model.specs.Volumes.{Rows}
use Rattle.image_disks.specs.Flaws.{IsFlaw as IsTrailFlaw}
use Rattle.image_disks.specs.Spelled.{block_of}
use Rattle.image_disks.specs.Standing.{StandsFor as StandsForValue}
use Rattle.image_disks.specs.Values.{Value, received, kept}
use Rattle.image_trails.specs.Memory.{plan_of}
use Rattle.rdf_volume.specs.declared.volume.Volume.{Volume}
use Rattle.rdf_volume.specs.Flaws.{IsFlaw}
use Rattle.rdf_volume.specs.Standing.{StandsBy}
use Rattle.rdf_volume.specs.Views.{restart_of, file_of}
use Rattle.node_faults.specs.declared.NodeFault.{NodeFault}
use Rattle.node_faults.specs.declared.NodeFault.TheVariants as node
use Rattle.rdf_core.specs.Layouts.{protects}
use Rattle.rdf_backup.specs.Restarting.{is_in_place}

-- of a backup that is up

-- damage that is told of a volume's disk, at this place of this file
pub record IsTooFarAt {D : Type 0} (tells : Type 0) (upto : ℕ) (volume : Volume D) (file at : ℕ) : Type 0 where
  -- where the disk tells what it holds, the restart point is beyond that position
  pub beyond : tells → upto < restart_of volume
  -- the file is the volume's
  pub file_is : tells → file ≡ file_of volume
  -- and the place is its first one
  pub at_is : tells → at ≡ 0
  -- whatever the disk is, the file is the volume's or a later one
  pub own : file_of volume ≤ file

-- damage that the fault tells of a volume's disk
abbrev pub IsTooFar : {D : Type 0} → Type 0 → ℕ → Volume D → LogFault → Type 0
IsTooFar tells upto volume log.Stopped = Unit {0}
IsTooFar tells upto volume log.Failed = Unit {0}
IsTooFar tells upto volume log.NoMemory = Unit {0}
IsTooFar tells upto volume (log.Damaged file at) = IsTooFarAt tells upto volume file at

-- the volume of that number is protected, and damage is told of its disk, at this place of this file
pub record IsBeyond {D : Type 0} (tells : Type 0) (layout : Layout) (upto : ℕ) (volumes : List (Volume D)) (v file at : ℕ) : Type 0 where
  pub on : IsTrue (protects layout v)
  pub volume : Volume D
  pub there : slice_get volumes v ≡ Some volume
  pub far : IsTooFarAt tells upto volume file at
  pub open far use *

-- damage of disk 0 is only told where it does not tell what it holds
abbrev pub IsWrongOn : {D : Type 0} → Type 0 → Layout → ℕ → List (Volume D) → ℕ → ℕ → ℕ → Type 0
IsWrongOn tells layout upto volumes zero file at = tells → ⊥
IsWrongOn tells layout upto volumes (suc v) file at = IsBeyond tells layout upto volumes v file at

-- damage that the fault tells is there
abbrev pub IsWrong : {D : Type 0} → Type 0 → Layout → ℕ → List (Volume D) → NodeFault → Type 0
IsWrong tells layout upto volumes (node.Stopped disk) = Unit {0}
IsWrong tells layout upto volumes (node.Failed disk) = Unit {0}
IsWrong tells layout upto volumes node.NoMemory = Unit {0}
IsWrong tells layout upto volumes (node.Damaged disk file at) = IsWrongOn tells layout upto volumes disk file at

-- of disks that are opened

-- however the contents stand for a volume, this is its file, and its restart point is out of its place; it is told at the first place of the file
pub record IsOutOfPlace (protected : Bool) (kept received : ℕ) (c : Contents) (file at : ℕ) : Type 0 where
  pub out : (own batches : ℕ) (rows : Rows) (restart : ℕ) → StandsBy own batches rows restart c → (file ≡ own) × (is_in_place protected kept received restart ≡ false)
  pub at_is : at ≡ 0

-- damage that the fault tells of a volume's disk is a flaw of its contents, or the restart point is out of place
abbrev pub IsVolumeFlaw : Bool → ℕ → ℕ → Contents → LogFault → Type 0
IsVolumeFlaw protected kept received c log.Stopped = Unit {0}
IsVolumeFlaw protected kept received c log.Failed = Unit {0}
IsVolumeFlaw protected kept received c log.NoMemory = Unit {0}
IsVolumeFlaw protected kept received c (log.Damaged file at) = IsFlaw c file at ⊎ IsOutOfPlace protected kept received c file at

-- a flaw of the contents of the disk of that number: of the image trails, or of a volume, whose restart point has its place by what the image trails stand for
abbrev pub IsFlawOf : Layout → Contents → ℕ → Contents → ℕ → ℕ → Type 0
IsFlawOf layout first zero c file at = IsTrailFlaw block_of (plan_of layout) c file at
IsFlawOf layout first (suc v) c file at = (value : Value) × StandsForValue block_of (plan_of layout) value first × IsVolumeFlaw (protects layout v) (kept value) (received value) c (log.Damaged file at)

-- the disk of that number, among all of a backup's, has a flaw
pub record IsFlawAt {D : Type 0} (files : D → Disk) (layout : Layout) (disks : List D) (n file at : ℕ) : Type 0 where
  pub first : D
  pub is_first : slice_get disks 0 ≡ Some first
  pub disk : D
  pub there : slice_get disks n ≡ Some disk
  pub flaw : IsFlawOf layout (seen_of (files first)) n (seen_of (files disk)) file at

-- damage that the fault tells is a flaw of the disk that it names
abbrev pub IsFlawIn : {D : Type 0} → (D → Disk) → Layout → List D → NodeFault → Type 0
IsFlawIn files layout disks (node.Stopped n) = Unit {0}
IsFlawIn files layout disks (node.Failed n) = Unit {0}
IsFlawIn files layout disks node.NoMemory = Unit {0}
IsFlawIn files layout disks (node.Damaged n file at) = IsFlawAt files layout disks n file at
