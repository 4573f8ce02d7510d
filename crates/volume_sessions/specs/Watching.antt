-- What holds of a watch.
use Rattle.std.specs.Prelude.{◌≡◌, ℕ, ◌<◌, ◌≤◌, List, [], map, true, false, Option, Some, None, MatchOption, IfSome}
use Rattle.std.specs.List.{AllZip}
use Rattle.rdf_types.specs.Entries.{Rises}
use Rattle.rdf_disk.specs.Files.{Disk}
use Rattle.rdf_disk.specs.Counts.{Counts}
use Rattle.rdf_volume.specs.Views.{restart_of}
use Rattle.rdf_volume.specs.declared.volume.Volume.{Volume}
use Rattle.image_board.specs.declared.remembered.Remembered.{Remembered}
use Rattle.seated_lock.specs.declared.story.Story.{Story}
use Rattle.seated_lock.specs.Passes.{Seeing, Lock, LockId}
use Rattle.image_board.specs.Boards.{Published}
use Rattle.updaters.specs.Rising.{IsAhead, IsNoteOf}
use Rattle.updaters.specs.declared.note.SeenVolume.{SeenVolume}
use Rattle.updaters.specs.declared.note.VolumeNote.{VolumeNote}
use Rattle.updaters.specs.declared.seat.VolumeSeat.{VolumeSeat}
use Rattle.volume_sessions.specs.declared.watch.Place.{Place}
use Rattle.volume_sessions.specs.Shown.{Shown, placed_by, noted_in}
use Rattle.volume_sessions.specs.Rising.{Rose}

-- the pass is here, as it last came back, or with a room
abbrev pub IsHereOrAway : Option Seeing → Seeing → Type 0
IsHereOrAway None seen = Unit {0}
IsHereOrAway (Some pass) seen = pass ≡ seen

-- the calling thread's pass of a seat, which has seen its volume up to there
pub record IsOwn {D : Type 0} (seat : Lock (VolumeSeat D)) (upto : ℕ) (own : Seeing) : Type 0 where
  pub lock : own.lock ≡ seat.id
  pub reader : own.writes ≡ false
  pub seats : own.seats ≡ 1
  pub so_far : upto ≤ own.story.number

-- a volume as it was asked for: it has come from what was put into that seat, and so far the calling thread's pass has seen it
pub record IsKept {D : Type 0} (tells : Type 0) (files : D → Disk) (counts : D → Counts) (seen : Seeing) (seat : Lock (VolumeSeat D)) (own : Option Seeing) (vol : ℕ) (noted : SeenVolume D) : Type 0 where
  pub ahead : IsAhead tells files counts vol seat.first.volume seen.story.entries seen.story.number noted
  pub so_far : MatchOption own ⊥ (λ o. noted.point ≤ o.story.number)

-- the note is that of the volume that was put into the seat
abbrev pub IsFirst : {D : Type 0} → Lock (VolumeSeat D) → VolumeNote D → Type 0
IsFirst seat note = IsNoteOf seat.first.vol seat.first.volume note

-- what was asked for is no earlier than what was last seen
abbrev pub IsAsked : {D : Type 0} → Type 0 → (D → Disk) → (D → Counts) → Story → Place D → Type 0
IsAsked tells files counts story p = Rose tells files counts p.vol story.entries story.number p.last.value (noted_in p.noted p.last.value)

-- a board on which nothing stood first, and which stands for the story
abbrev pub StandsAs : {N : Type 0} → Story → Published N → Type 0
StandsAs story b = (b.items ≡ story.entries) × (b.end ≡ story.number)

-- the restart point of the volume as it was last asked for
abbrev pub point_in : {D : Type 0} → Option (SeenVolume D) → ℕ → ℕ
point_in None point = point
point_in (Some noted) point = noted.point

-- what is kept as asked for, where a volume is seen anew
abbrev pub kept_in : {D : Type 0} → Option (SeenVolume D) → Remembered (Volume D) → ℕ → SeenVolume D
kept_in None last point = record { volume = last; point = point }
kept_in (Some noted) last point = noted

-- the place, whose volume was seen anew
abbrev pub with_seen : {D : Type 0} → Place D → Remembered (Volume D) → ℕ → Place D
with_seen p volume point = record p { last = volume; point = point; noted = Some (kept_in p.noted p.last p.point) }

-- the place, where the volume as it was asked for is as it was last seen
abbrev pub accept_in : {D : Type 0} → Place D → Option (SeenVolume D) → Place D
accept_in p None = p
accept_in p (Some noted) = record p { last = noted.volume; point = noted.point; noted = None }

abbrev pub accepted : {D : Type 0} → Place D → Place D
accepted p = accept_in p p.noted

-- A place is one of that seat, and has last seen its volume as one of the entries up to that position
pub record IsPlaceOf {D : Type 0} (tells : Type 0) (files : D → Disk) (counts : D → Counts) (board : LockId) (seen : Seeing) (seat : Lock (VolumeSeat D)) (place : Place D) : Type 0 where
  pub own : MatchOption place.own ⊥ (IsOwn seat (restart_of place.last.value))
  pub all_seats : seat.seats ≡ 2
  pub vol : seat.first.vol ≡ place.vol
  pub board_is : seat.first.board.lock ≡ board
  pub rose : Rose tells files counts place.vol seen.story.entries seen.story.number seat.first.volume place.last.value
  pub point_is : place.point ≡ restart_of place.last.value
  pub noted : IfSome place.noted (IsKept tells files counts seen seat place.own place.vol)

-- The pass writes the board, on which nothing stood first and whose entries rise, and there is a place for each seat
pub record IsWatching {D : Type 0} (tells : Type 0) (files : D → Disk) (counts : D → Counts) (board : Lock (Published (VolumeNote D))) (seats : List (Lock (VolumeSeat D))) (pass : Option Seeing) (seen : Seeing) (places : List (Place D)) : Type 0 where
  pub here : IsHereOrAway pass seen
  pub lock : seen.lock ≡ board.id
  pub writes : seen.writes ≡ true
  pub lasts : seen.story.ended ≡ false
  pub some : 1 < seen.seats
  pub empty : board.first.items ≡ []
  pub rises : Rises board.first.start seen.story.entries seen.story.number
  pub places_are : AllZip (IsPlaceOf tells files counts board.id seen) seats places
  pub firsts : AllZip IsFirst seats board.first.firsts

-- The board is finished, by the calling thread's pass, and stands as it was shown
pub record IsOver {D : Type 0} (tells : Type 0) (files : D → Disk) (counts : D → Counts) (s : Shown D) (pass : Seeing) (places : List (Place D)) : Type 0 where
  pub lock : pass.lock ≡ s.key.board.id
  pub writes : pass.writes ≡ true
  pub story : pass.story ≡ record { entries = s.entries; number = s.end; ended = true }
  pub rises : Rises s.key.board.first.start s.entries s.end
  pub volumes : s.volumes ≡ map placed_by places
  pub places_are : AllZip (IsPlaceOf tells files counts s.key.board.id pass) s.key.seats places
