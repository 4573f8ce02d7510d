-- What the calling thread knows of an open session.
use Rattle.std.specs.Prelude.{◌≡◌, ℕ, ◌+◌, ◌≤◌, List, ◌++◌, map, length, Bool, true, false, Option, Some, None, MatchOption}
use Rattle.rdf_types.specs.declared.records.Stamped.{Stamped}
use Rattle.rdf_volume.specs.declared.volume.Volume.{Volume}
use Rattle.seated_lock.specs.declared.story.Story.{Story}
use Rattle.seated_lock.specs.Passes.{Seeing, Lock}
use Rattle.image_board.specs.Boards.{Published}
use Rattle.updaters.specs.declared.note.SeenVolume.{SeenVolume}
use Rattle.updaters.specs.declared.note.VolumeNote.{VolumeNote}
use Rattle.updaters.specs.declared.seat.VolumeSeat.{VolumeSeat}
use Rattle.volume_sessions.specs.declared.placed.Placed.{Placed}
use Rattle.volume_sessions.specs.declared.watch.Place.{Place}
use Rattle.volume_sessions.specs.declared.watch.Room.{Room}

-- which locks they are, and how many seats of the board's the calling thread has
pub record Key (D : Type 0) : Type 0 where
  pub board : Lock (Published (VolumeNote D))
  pub seats : List (Lock (VolumeSeat D))
  pub own : ℕ

-- An open session: which locks it has, where its board begins, the entries that were published and up to which position, each volume as it was last seen, in their order, whether a room is out, and each volume as it was last asked for, in the same order
pub record Shown (D : Type 0) : Type 0 where
  pub key : Key D
  pub start : ℕ
  pub entries : List Stamped
  pub end : ℕ
  pub volumes : List (Placed D)
  pub lent : Bool
  pub noted : List (Placed D)

-- a volume as it was last seen
abbrev pub placed_by : {D : Type 0} → Place D → Placed D
placed_by p = record { vol = p.vol; volume = p.last.value }

-- a volume as it was last asked for, which is as it was last seen where nothing else is kept
abbrev pub noted_in : {D : Type 0} → Option (SeenVolume D) → Volume D → Volume D
noted_in None last = last
noted_in (Some seen) last = seen.volume.value

abbrev pub noted_by : {D : Type 0} → Place D → Placed D
noted_by p = record { vol = p.vol; volume = noted_in p.noted p.last.value }

-- the pass is with a room
abbrev pub is_away : Option Seeing → Bool
is_away None = true
is_away (Some pass) = false

abbrev pub shown_by : {D : Type 0} → Lock (Published (VolumeNote D)) → List (Lock (VolumeSeat D)) → Option Seeing → Seeing → List (Place D) → Shown D
shown_by board seats pass seen places = record { key = record { board = board; seats = seats; own = seen.seats }; start = board.first.start; entries = seen.story.entries; end = seen.story.number; volumes = map placed_by places; lent = is_away pass; noted = map noted_by places }

-- the story of a board on which nothing stood first
abbrev pub shown : {N : Type 0} → Published N → Story
shown b = record { entries = b.items; number = b.end; ended = b.finished }

-- with a room out
abbrev pub with_lent : {D : Type 0} → Shown D → Shown D
with_lent s = record s { lent = true }

-- with the room back
abbrev pub with_back : {D : Type 0} → Shown D → Shown D
with_back s = record s { lent = false }

-- with these entries more, up to that position, and the room back
abbrev pub with_published : {D : Type 0} → Shown D → List Stamped → ℕ → Shown D
with_published s part end = record s { entries = s.entries ++ part; end = end; lent = false }

-- A turn on the board of these locks, which has these entries up to that position, and room for so many more as the room says
pub record IsRoom {D : Type 0} (key : Key D) (start : ℕ) (entries : List Stamped) (end : ℕ) (room : Room D) : Type 0 where
  pub lock : room.turn.hold.lock ≡ key.board.id
  pub seats : room.turn.hold.seats ≡ key.own
  pub writes : room.turn.hold.writes ≡ true
  pub story : room.turn.hold.story ≡ record { entries = entries; number = end; ended = false }
  pub start_is : room.turn.value.start ≡ start
  pub items : room.turn.value.items ≡ entries
  pub end_is : room.turn.value.end ≡ end
  pub unfinished : room.turn.value.finished ≡ false
  pub firsts : room.turn.value.firsts ≡ key.board.first.firsts
  pub there : length entries + room.more ≤ room.turn.value.room

-- the room is one of this session as it stands
abbrev pub HasRoom : {D : Type 0} → Shown D → Room D → Type 0
HasRoom s room = IsRoom s.key s.start s.entries s.end room

-- a session is lent, with no room out, and of it this is so
abbrev pub IsLent : {D : Type 0} → (Shown D → Type 0) → Option (Shown D) → Type 0
IsLent P watch = MatchOption watch ⊥ (λ s. (s.lent ≡ false) × P s)

-- the same session comes back, with no room out, and of what it was and is this is so
abbrev pub ComesBack : {D : Type 0} → (Shown D → Shown D → Type 0) → Option (Shown D) → Option (Shown D) → Type 0
ComesBack P old new = MatchOption old ⊥ (λ was. MatchOption new ⊥ (λ now. (now.lent ≡ false) × (now.key ≡ was.key) × P was now))
