-- Volumes that have come from what they were.
use Rattle.std.specs.Prelude.{◌≡◌, ◌⊎◌, ℕ, ◌≤◌, List, slice_get, Some, IfSome}
use Rattle.rdf_types.specs.declared.records.Stamped.{Stamped}
use Rattle.rdf_disk.specs.Files.{Disk}
use Rattle.rdf_disk.specs.Counts.{Counts}
use Rattle.rdf_volume.specs.Views.{rows_of, restart_of, disk_of, InUse}
use Rattle.rdf_volume.specs.declared.volume.Volume.{Volume}
use Rattle.image_board.specs.Entries.{images_between}
use Rattle.updaters.specs.Seats.{with_images}
use Rattle.updaters.specs.declared.note.SeenVolume.{SeenVolume}
use Rattle.updaters.specs.declared.note.VolumeNote.{VolumeNote}

-- A volume has come from what it was: it shows the rows with all its images of the entries from the one restart point to the other applied, may be used, and no count of its disk has changed.
pub record Rose {D : Type 0} (tells : Type 0) (files : D → Disk) (counts : D → Counts) (vol : ℕ) (entries : List Stamped) (upto : ℕ) (old new : Volume D) : Type 0 where
  pub behind : restart_of old ≤ restart_of new
  pub within : restart_of new ≤ upto
  pub rows : rows_of new ≡ with_images (rows_of old) (images_between vol (restart_of old) (restart_of new) entries)
  pub in_use : tells → InUse files new
  pub counts_are : counts (disk_of new) ≡ counts (disk_of old)

-- a volume that was seen with its restart point, and has come from what it first was
pub record IsAhead {D : Type 0} (tells : Type 0) (files : D → Disk) (counts : D → Counts) (vol : ℕ) (first : Volume D) (entries : List Stamped) (end : ℕ) (seen : SeenVolume D) : Type 0 where
  pub point_is : seen.point ≡ restart_of seen.volume.value
  pub rose : Rose tells files counts vol entries end first seen.volume.value

-- the same, of what is noted first
abbrev pub IsAheadOf : {D : Type 0} → Type 0 → (D → Disk) → (D → Counts) → VolumeNote D → List Stamped → ℕ → SeenVolume D → Type 0
IsAheadOf tells files counts first entries end seen = IfSome first.seen (λ f. IsAhead tells files counts first.vol f.volume.value entries end seen)

-- the note that stood first, or one of its volume, which has come from there
abbrev pub Fits : {D : Type 0} → Type 0 → (D → Disk) → (D → Counts) → VolumeNote D → List Stamped → ℕ → VolumeNote D → Type 0
Fits tells files counts first entries end now = (now ≡ first) ⊎ ((now.vol ≡ first.vol) × IfSome now.seen (IsAheadOf tells files counts first entries end))

-- a volume with that number may be noted at the place
abbrev pub MayFollow : {D : Type 0} → Type 0 → (D → Disk) → (D → Counts) → List (VolumeNote D) → ℕ → ℕ → List Stamped → ℕ → SeenVolume D → Type 0
MayFollow tells files counts firsts place vol entries end seen = IfSome (slice_get firsts place) (λ first. (vol ≡ first.vol) × IsAheadOf tells files counts first entries end seen)

-- the volume as it is, and its restart point
pub record IsSeen {D : Type 0} (volume : Volume D) (seen : SeenVolume D) : Type 0 where
  pub volume_is : seen.volume.value ≡ volume
  pub point_is : seen.point ≡ restart_of volume

-- the note of a volume as it is
pub record IsNoteOf {D : Type 0} (vol : ℕ) (volume : Volume D) (note : VolumeNote D) : Type 0 where
  pub vol_is : note.vol ≡ vol
  pub seen : SeenVolume D
  pub there : note.seen ≡ Some seen
  pub is : IsSeen volume seen

-- the note that stood first at the place is that of this volume
pub record IsNotedAt {D : Type 0} (firsts : List (VolumeNote D)) (place vol : ℕ) (volume : Volume D) : Type 0 where
  pub note : VolumeNote D
  pub there : slice_get firsts place ≡ Some note
  pub is : IsNoteOf vol volume note
