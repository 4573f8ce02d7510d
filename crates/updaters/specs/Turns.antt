-- Turns on the board and on the seat of a volume, and what they add up to.
use Rattle.std.specs.Prelude.{◌≡◌, ◌⊎◌, ℕ, ◌≤◌, ◌<◌, List, [], ◌++◌, length, true, false, Option, Some, None, Result, Ok, Err}
use Rattle.rdf_types.specs.declared.records.Stamped.{Stamped}
use Rattle.rdf_disk.specs.Files.{Disk}
use Rattle.rdf_disk.specs.Counts.{Counts}
use Rattle.rdf_disk.specs.Outcomes.{Durably}
use Rattle.rdf_gatelog.specs.declared.fault.LogFault.{LogFault}
use Rattle.rdf_gatelog.specs.declared.fault.LogFault.TheVariants.{Damaged}
use Rattle.rdf_volume.specs.Standing.{StandsFor, StandsForEither}
use Rattle.rdf_volume.specs.declared.volume.Volume.{Volume}
use Rattle.rdf_volume.specs.Views.{rows_of, restart_of, disk_of, InUse}
use Rattle.seated_lock.specs.declared.story.Story.{Story}
use Rattle.seated_lock.specs.Rules.{StandsFor as Stands}
use Rattle.seated_lock.specs.Stories.{Begins, with_more}
use Rattle.seated_lock.specs.Passes.{Seeing, Lock}
use Rattle.image_board.specs.Boards.{Published}
use Rattle.image_board.specs.declared.pieces.Piece.{Piece}
use Rattle.image_board.specs.Entries.{images_between}
use Rattle.updaters.specs.Seats.{Sits, IsWell, with_images}
use Rattle.updaters.specs.declared.note.VolumeNote.{VolumeNote}
use Rattle.updaters.specs.declared.seat.VolumeSeat.{VolumeSeat}

-- ---- what a call on the volume does

-- the images were applied, and the restart point is there
pub record HasAdvanced {D : Type 0} (tells : Type 0) (files : D → Disk) (images : List Stamped) (upto : ℕ) (old new : VolumeSeat D) : Type 0 where
  pub fit : new.failed ≡ None
  pub in_use : tells → InUse files new.volume
  pub rows : rows_of new.volume ≡ with_images (rows_of old.volume) images
  pub restart : restart_of new.volume ≡ upto

-- a fault was met: the disk durably stands for what was, or for the whole batch, and for that where the restart point shows it
pub record HasBroken {D : Type 0} (tells : Type 0) (files : D → Disk) (images : List Stamped) (upto : ℕ) (why : LogFault) (old new : VolumeSeat D) : Type 0 where
  pub failed : new.failed ≡ Some why
  pub point : (restart_of new.volume ≡ restart_of old.volume) ⊎ (restart_of new.volume ≡ upto)
  pub either : tells → Durably (files (disk_of new.volume)) (StandsForEither (rows_of old.volume) (restart_of old.volume) (with_images (rows_of old.volume) images) upto)
  pub known : tells → restart_of new.volume ≡ upto → Durably (files (disk_of new.volume)) (StandsFor (with_images (rows_of old.volume) images) upto)
  pub sound : tells → (file at : ℕ) → why ≡ Damaged file at → ⊥

-- the one or the other, by the answer
abbrev pub Advances : {D : Type 0} → Type 0 → (D → Disk) → List Stamped → ℕ → Result (Unit {0}) LogFault → VolumeSeat D → VolumeSeat D → Type 0
Advances tells files images upto (Ok x) old new = HasAdvanced tells files images upto old new
Advances tells files images upto (Err why) old new = HasBroken tells files images upto why old new

-- the fault of an answer
abbrev pub fault_of : Result (Unit {0}) LogFault → Option LogFault
fault_of (Ok x) = None
fault_of (Err why) = Some why

-- the answer without what it answers
abbrev pub done_of : {T : Type 0} → Result T LogFault → Result (Unit {0}) LogFault
done_of (Ok x) = Ok tt
done_of (Err why) = Err why

-- ---- passes

-- a pass as it was, but that more was seen
pub record IsLater (old new : Seeing) : Type 0 where
  pub lock : new.lock ≡ old.lock
  pub seats : new.seats ≡ old.seats
  pub writes : new.writes ≡ old.writes
  pub seen : Begins old.story new.story

-- a pass of the board, on which nothing stood first, and which may be split
pub record LendsBoard {D : Type 0} (board : Lock (Published (VolumeNote D))) (pass : Seeing) : Type 0 where
  pub lock : pass.lock ≡ board.id
  pub some : 1 < pass.seats
  pub empty : board.first.items ≡ []

-- a pass of the seat, which is of this volume and of that board
pub record ComesToSeat {D : Type 0} (board : Lock (Published (VolumeNote D))) (seat : Lock (VolumeSeat D)) (vol : ℕ) (pass : Seeing) : Type 0 where
  pub lock : pass.lock ≡ seat.id
  pub vol_is : seat.first.vol ≡ vol
  pub board_is : seat.first.board.lock ≡ board.id

-- a pass that writes, of a volume that is not done yet
abbrev pub Writes : Seeing → Type 0
Writes pass = (pass.writes ≡ true) × (pass.story.ended ≡ false)

-- and one that stays so
abbrev pub StaysWriter : Seeing → Seeing → Type 0
StaysWriter old new = (new.lock ≡ old.lock) × (new.seats ≡ old.seats) × (new.writes ≡ true) × (new.story.ended ≡ false)

-- the volume's story has come to the end of the board's, which is done
abbrev pub IsDrained : Story → Story → Type 0
IsDrained board vol = (board.ended ≡ true) × (vol.number ≡ board.number)

-- ---- turns

-- images that a turn is to apply: all those of the volume from its story's number to below a position, in what was seen of the board
pub record IsGiven (vol : ℕ) (board story : Story) (given : List Stamped) (upto : ℕ) : Type 0 where
  pub within : (story.number ≤ upto) × (upto ≤ board.number)
  pub images : given ≡ images_between vol story.number upto board.entries
  pub few : length given ≤ 16

-- a seat that stands for its story, and on which no fault was met
pub record IsFit {D : Type 0} (tells : Type 0) (files : D → Disk) (counts : D → Counts) (first : VolumeSeat D) (story : Story) (seat : VolumeSeat D) : Type 0 where
  pub value : Stands (Sits tells files counts) (λ s. restart_of s.volume) first story seat
  pub fit : seat.failed ≡ None

-- what was found on the board: the first images of the volume from there on, in what the pass has then seen
pub record IsFound (vol from : ℕ) (story : Story) (piece : Piece) : Type 0 where
  pub images : piece.images.items ≡ images_between vol from piece.upto story.entries
  pub few : length piece.images.items ≤ 16
  pub behind : from ≤ piece.upto
  pub within : piece.upto ≤ story.number
  pub ended : piece.ended ≡ true → (story.ended ≡ true) × (piece.upto ≡ story.number)

-- the images were added to the story, up to the position, or nothing was
abbrev pub Added : Option LogFault → Story → List Stamped → ℕ → Story → Type 0
Added None old images upto new = new ≡ with_more old images upto
Added (Some why) old images upto new = (new ≡ old) ⊎ (new ≡ with_more old images upto)

-- What an updater's loop added to its volume's story: exactly the images of the volume, in order, from the number at entry to the one reached, in what the board's pass has seen.
pub record HasApplied (vol : ℕ) (board : Story) (old new : Seeing) : Type 0 where
  pub lock : new.lock ≡ old.lock
  pub seats : new.seats ≡ old.seats
  pub writer : new.writes ≡ true
  pub lasts : new.story.ended ≡ false
  pub behind : old.story.number ≤ new.story.number
  pub within : new.story.number ≤ board.number
  pub entries : new.story.entries ≡ old.story.entries ++ images_between vol old.story.number new.story.number board.entries

-- What a pass has seen of a volume: all its images from the first restart point to the story's number, in what stands on the board, which reaches at least as far.
pub record HasSeen {D : Type 0} (first : VolumeSeat D) (board : Story) (story : Story) : Type 0 where
  pub behind : restart_of first.volume ≤ story.number
  pub within : story.number ≤ board.number
  pub entries : story.entries ≡ images_between first.vol (restart_of first.volume) story.number board.entries

-- a volume as a pass that has seen so much of its story saw it: it is well, and has come as far
abbrev pub IsShown : {D : Type 0} → Type 0 → (D → Disk) → (D → Counts) → VolumeSeat D → Story → Volume D → Type 0
IsShown tells files counts first story volume = IsWell tells files counts first.volume story.entries volume × (restart_of volume ≡ story.number)
