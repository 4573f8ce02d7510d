-- What the seat of a volume stands for.
use Rattle.std.specs.Prelude.{◌≡◌, ℕ, ◌≤◌, List, ◌++◌, false, Option, Some, None}
use Rattle.std.specs.FinMap.{get}
use Rattle.rdf_types.specs.declared.records.RecKey.{RecKey}
use Rattle.rdf_types.specs.declared.records.Stamped.{Stamped}
use Rattle.rdf_disk.specs.Files.{Disk}
use Rattle.rdf_disk.specs.Counts.{Counts, Causes}
use Rattle.rdf_disk.specs.Outcomes.{Durably}
use Rattle.rdf_gatelog.specs.declared.fault.LogFault.{LogFault}
use Rattle.rdf_gatelog.specs.declared.fault.LogFault.TheVariants.{Damaged}
use Rattle.rdf_gatelog.specs.LogCauses.{ending_of_fault}
use Rattle.rdf_model.specs.Volumes.{Rows}
use Rattle.rdf_volume.specs.Changes.{changed}
use Rattle.rdf_volume.specs.Standing.{StandsForEither}
use Rattle.rdf_volume.specs.Views.{rows_of, restart_of, disk_of, InUse}
use Rattle.rdf_volume.specs.declared.volume.Volume.{Volume}
use Rattle.seated_lock.specs.declared.story.Story.{Story}
use Rattle.image_board.specs.Entries.{images_between}
use Rattle.updaters.specs.Applied.{changes_by}
use Rattle.updaters.specs.declared.seat.VolumeSeat.{VolumeSeat}

-- the rows with these images applied
abbrev pub with_images : Rows → List Stamped → Rows
with_images rows images = changed rows (changes_by images)

-- the value that a row has then
abbrev pub row_at : Rows → List Stamped → RecKey → Option (List ℕ)
row_at rows images key = get (with_images rows images) (key.file, key.key)

-- a volume that has not failed: it may be used and shows the first one's rows with the images applied, and no count of its disk has changed
pub record IsWell {D : Type 0} (tells : Type 0) (files : D → Disk) (counts : D → Counts) (first : Volume D) (images : List Stamped) (now : Volume D) : Type 0 where
  pub in_use : tells → InUse files now
  pub rows : rows_of now ≡ with_images (rows_of first) images
  pub counts_are : counts (disk_of now) ≡ counts (disk_of first)

-- a volume that has failed: its disk durably stands for the first one's rows with the images applied, or for these with one batch more, which is all images of the volume from there to below some position in what was seen of the board; and the fault has its cause in the counts
pub record HasFailed {D : Type 0} (tells : Type 0) (files : D → Disk) (counts : D → Counts) (vol : ℕ) (board : Story) (first : Volume D) (images : List Stamped) (why : LogFault) (now : Volume D) : Type 0 where
  pub upto : ℕ
  pub behind : restart_of now ≤ upto
  pub within : upto ≤ board.number
  pub stands : tells → Durably (files (disk_of now)) (StandsForEither (with_images (rows_of first) images) (restart_of now) (with_images (rows_of first) (images ++ images_between vol (restart_of now) upto board.entries)) upto)
  pub cause : Causes (ending_of_fault why) (counts (disk_of first)) (counts (disk_of now))
  pub sound : tells → (file at : ℕ) → why ≡ Damaged file at → ⊥

-- the one or the other, by the fault that the seat keeps
abbrev pub IsSeated : {D : Type 0} → Type 0 → (D → Disk) → (D → Counts) → ℕ → Story → Volume D → List Stamped → Option LogFault → Volume D → Type 0
IsSeated tells files counts vol board first images None now = IsWell tells files counts first images now
IsSeated tells files counts vol board first images (Some why) now = HasFailed tells files counts vol board first images why now

-- The seat stands for the story of the first one: the story's entries are all images of the volume in what the seat's pass has seen of the board, from the first restart point to the present one.
pub record Sits {D : Type 0} (tells : Type 0) (files : D → Disk) (counts : D → Counts) (first : VolumeSeat D) (story : Story) (now : VolumeSeat D) : Type 0 where
  pub vol : now.vol ≡ first.vol
  pub stops_before : now.stops_before ≡ first.stops_before
  pub faults_before : now.faults_before ≡ first.faults_before
  pub lasts : story.ended ≡ false
  pub lock : now.board.lock ≡ first.board.lock
  pub seats : now.board.seats ≡ 1
  pub reader : now.board.writes ≡ false
  pub seen : restart_of now.volume ≤ now.board.story.number
  pub behind : restart_of first.volume ≤ restart_of now.volume
  pub entries : story.entries ≡ images_between first.vol (restart_of first.volume) (restart_of now.volume) now.board.story.entries
  pub state : IsSeated tells files counts first.vol now.board.story first.volume story.entries now.failed now.volume

-- the story that a seat stands for, where the first one was this
abbrev pub told_of : {D : Type 0} → VolumeSeat D → VolumeSeat D → Story
told_of first now = record { entries = images_between first.vol (restart_of first.volume) (restart_of now.volume) now.board.story.entries; number = restart_of now.volume; ended = false }
