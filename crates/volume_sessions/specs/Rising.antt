-- Volumes as a session takes them along.
use Rattle.std.specs.Prelude.{◌≡◌, ℕ, ◌≤◌, List, slice_get, slice_set, Option, Some}
use Rattle.std.specs.FinMap.{get}
use Rattle.std.specs.List.{AllZip}
use Rattle.rdf_types.specs.declared.records.RecKey.{RecKey}
use Rattle.rdf_types.specs.declared.records.Stamped.{Stamped}
use Rattle.rdf_disk.specs.Files.{Disk, Contents}
use Rattle.rdf_disk.specs.Counts.{Counts}
use Rattle.rdf_volume.specs.Standing.{StandsFor}
use Rattle.rdf_volume.specs.Views.{rows_of, restart_of, disk_of, InUse}
use Rattle.rdf_volume.specs.declared.volume.Volume.{Volume}
use Rattle.seated_lock.specs.declared.story.Story.{Story}
use Rattle.image_board.specs.Entries.{images_between}
use Rattle.updaters.specs.Seats.{with_images}
pub use Rattle.updaters.specs.Rising.{Rose}
use Rattle.volume_sessions.specs.declared.placed.Placed.{Placed}
use Rattle.volume_sessions.specs.Shown.{Shown}

-- each volume has come from what it was, or stands as it was
abbrev pub AreRisen : {D : Type 0} → Type 0 → (D → Disk) → (D → Counts) → List Stamped → ℕ → List (Placed D) → List (Placed D) → Type 0
AreRisen tells files counts entries upto old new = AllZip (λ was now. (now.vol ≡ was.vol) × Rose tells files counts was.vol entries upto was.volume now.volume) old new

-- contents that stand for the volume, come to some position from its restart point on
pub record StandsAlong {D : Type 0} (vol : ℕ) (entries : List Stamped) (upto : ℕ) (old : Volume D) (c : Contents) : Type 0 where
  pub at : ℕ
  pub behind : restart_of old ≤ at
  pub within : at ≤ upto
  pub stands : StandsFor (with_images (rows_of old) (images_between vol (restart_of old) at entries)) at c

-- a volume may go into a session of entries from one position to below another
abbrev pub MayEnter : {D : Type 0} → ℕ → ℕ → Placed D → Type 0
MayEnter start end placed = (start ≤ restart_of placed.volume) × (restart_of placed.volume ≤ end)

-- the volume as it came: with its number, and the same rows, restart point and counts
pub record IsAsGiven {D : Type 0} (tells : Type 0) (files : D → Disk) (counts : D → Counts) (old new : Placed D) : Type 0 where
  pub vol : new.vol ≡ old.vol
  pub rows : rows_of new.volume ≡ rows_of old.volume
  pub restart : restart_of new.volume ≡ restart_of old.volume
  pub in_use : tells → InUse files new.volume
  pub counts_are : counts (disk_of new.volume) ≡ counts (disk_of old.volume)

-- a row was seen: its volume has risen since it was last seen, and shows the value
pub record SeesRow {D : Type 0} (tells : Type 0) (files : D → Disk) (counts : D → Counts) (seen : Story) (key : RecKey) (was now : Volume D) (value : Option (List ℕ)) : Type 0 where
  pub rose : Rose tells files counts key.vol seen.entries seen.number was now
  pub value_is : tells → value ≡ get (rows_of now) (key.file, key.key)

-- A row was read: its volume, which is at that place, was seen anew, has risen since it was last seen, and shows the value
pub record HasRead {D : Type 0} (tells : Type 0) (files : D → Disk) (counts : D → Counts) (place : ℕ) (key : RecKey) (value : Option (List ℕ)) (old new : Shown D) : Type 0 where
  pub was : Placed D
  pub now : Volume D
  pub there : slice_get old.volumes place ≡ Some was
  pub new_is : new ≡ record old { volumes = slice_set old.volumes place (record { vol = was.vol; volume = now }) }
  pub rose : Rose tells files counts key.vol old.entries old.end was.volume now
  pub value_is : tells → value ≡ get (rows_of now) (key.file, key.key)

-- the volume at that place has this number
abbrev pub IsPlaced : {D : Type 0} → ℕ → ℕ → Shown D → Type 0
IsPlaced {D = D} vol place s = (was : Placed D) × (slice_get s.volumes place ≡ Some was) × (was.vol ≡ vol)
