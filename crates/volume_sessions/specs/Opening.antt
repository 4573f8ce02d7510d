-- How the locks of a session are opened.
use Rattle.std.specs.Prelude.{◌≡◌, ℕ, ◌≤◌, List, [], map, true, false, Some, slice_get, vec_capacity, MatchOption}
use Rattle.std.specs.List.{AllZip}
use Rattle.rdf_types.specs.Entries.{Rises}
use Rattle.rdf_types.specs.declared.records.Stamped.{Stamped}
use Rattle.rdf_disk.specs.Files.{Disk}
use Rattle.rdf_disk.specs.Counts.{Counts}
use Rattle.rdf_volume.specs.Views.{restart_of}
use Rattle.seated_lock.specs.Stories.{untold}
use Rattle.seated_lock.specs.Passes.{Seeing, Lock}
use Rattle.image_board.specs.Boards.{Published}
use Rattle.updaters.specs.Rising.{IsNoteOf, IsNotedAt}
use Rattle.updaters.specs.declared.note.VolumeNote.{VolumeNote}
use Rattle.updaters.specs.declared.seat.VolumeSeat.{VolumeSeat}
use Rattle.volume_sessions.specs.declared.opening.Start.{Start}
use Rattle.volume_sessions.specs.declared.opening.Opened.{Opened}
use Rattle.volume_sessions.specs.declared.watch.Place.{Place}
use Rattle.volume_sessions.specs.declared.placed.Placed.{Placed}
use Rattle.volume_sessions.specs.Shown.{placed_by}
use Rattle.volume_sessions.specs.Watching.{IsOwn, IsPlaceOf}
use Rattle.volume_sessions.specs.Workers.{MayUpdate}

-- the pass writes the board, on which nothing stood first, and no updater has begun
pub record IsOpening {D : Type 0} (board : Lock (Published (VolumeNote D))) (pass : Seeing) : Type 0 where
  pub lock : pass.lock ≡ board.id
  pub writes : pass.writes ≡ true
  pub lasts : pass.story.ended ≡ false
  pub empty : board.first.items ≡ []
  pub rises : Rises board.first.start pass.story.entries pass.story.number

-- the writing pass of a seat on which nobody had a turn
pub record IsFresh {D : Type 0} (seat : Lock (VolumeSeat D)) (start : Start) : Type 0 where
  pub lock : start.vol_pass.lock ≡ seat.id
  pub seats : start.vol_pass.seats ≡ 1
  pub writes : start.vol_pass.writes ≡ true
  pub untold_is : start.vol_pass.story ≡ untold (restart_of seat.first.volume)

-- the calling thread's pass of a seat that was opened for two
abbrev pub HasOwn : {D : Type 0} → Lock (VolumeSeat D) → Place D → Type 0
HasOwn seat place = MatchOption place.own ⊥ (IsOwn seat (restart_of place.last.value)) × (seat.seats ≡ 2)

-- an updater may start on that seat
abbrev pub MayStart : {D : Type 0} → Lock (Published (VolumeNote D)) → Lock (VolumeSeat D) → Start → Type 0
MayStart board seat start = MayUpdate board seat start.vol start.place start.board_pass start.vol_pass × IsFresh seat start

-- what was put into a seat
abbrev pub put_in : {D : Type 0} → Lock (VolumeSeat D) → Placed D
put_in seat = record { vol = seat.first.vol; volume = seat.first.volume }

-- the locks of these volumes are open
pub record HasOpened {D : Type 0} (tells : Type 0) (files : D → Disk) (counts : D → Counts) (board : Lock (Published (VolumeNote D))) (pass : Seeing) (volumes : List (Placed D)) (opened : Opened D) : Type 0 where
  pub places : AllZip (IsPlaceOf tells files counts board.id pass) opened.seats.items opened.places.items
  pub starts : AllZip (MayStart board) opened.seats.items opened.starts.items
  pub put : volumes ≡ map put_in opened.seats.items
  pub shown : volumes ≡ map placed_by opened.places.items
  pub none_left : opened.given.items ≡ []

-- nothing is open, and there is memory for so many
pub record HasSpace {D : Type 0} (many : ℕ) (opened : Opened D) : Type 0 where
  pub seats : (opened.seats.items ≡ []) × (many ≤ vec_capacity opened.seats)
  pub places : (opened.places.items ≡ []) × (many ≤ vec_capacity opened.places)
  pub starts : (opened.starts.items ≡ []) × (many ≤ vec_capacity opened.starts)

-- for as many there is memory as before
pub record SameSpace {D : Type 0} (old new : Opened D) : Type 0 where
  pub seats : vec_capacity new.seats ≡ vec_capacity old.seats
  pub places : vec_capacity new.places ≡ vec_capacity old.places
  pub starts : vec_capacity new.starts ≡ vec_capacity old.starts
  pub given : vec_capacity new.given ≡ vec_capacity old.given

-- the note of a volume that is to be put into a seat
abbrev pub IsPutAs : {D : Type 0} → Placed D → VolumeNote D → Type 0
IsPutAs placed note = IsNoteOf placed.vol placed.volume note

-- the notes that stand first, place by place, are those of these volumes
abbrev pub AreNoted : {D : Type 0} → List (VolumeNote D) → List (Placed D) → Type 0
AreNoted {D = D} firsts volumes = (k : ℕ) (p : Placed D) → slice_get volumes k ≡ Some p → IsNotedAt firsts k p.vol p.volume

-- the board of a session, with a note of each volume, with these entries up to a position, and the pass that writes it, with all seats
pub record IsOpenedBoard {D : Type 0} (volumes : List (Placed D)) (start : ℕ) (part : List Stamped) (end seats : ℕ) (board : Lock (Published (VolumeNote D))) (pass : Seeing) : Type 0 where
  pub opening : IsOpening board pass
  pub start_is : board.first.start ≡ start
  pub entries : pass.story.entries ≡ part
  pub end_is : pass.story.number ≡ end
  pub seats_are : pass.seats ≡ seats
  pub notes : AllZip IsPutAs volumes board.first.firsts
