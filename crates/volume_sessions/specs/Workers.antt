-- Updaters, and what the calling thread does beside them, as workers.
use Rattle.std.specs.Prelude.{◌≡◌, ℕ, ◌≤◌, List, true}
use Rattle.rdf_disk.specs.Files.{Disk}
use Rattle.rdf_disk.specs.Counts.{Counts}
use Rattle.seated_lock.specs.Passes.{Seeing, Lock, LockId}
use Rattle.image_board.specs.Boards.{Published}
use Rattle.updaters.specs.Rising.{IsNotedAt}
use Rattle.updaters.specs.declared.note.VolumeNote.{VolumeNote}
use Rattle.updaters.specs.declared.seat.VolumeSeat.{VolumeSeat}
use Rattle.updaters.specs.declared.updating.LoopEnd.{LoopEnd}
use Rattle.updaters.specs.declared.updating.UpdaterEnd.TheVariants.{Drained}
use Rattle.updaters.specs.Turns.{LendsBoard, ComesToSeat, Writes, IsDrained}
use Rattle.volume_sessions.specs.declared.watch.Place.{Place}
use Rattle.volume_sessions.specs.Shown.{Shown}
use Rattle.volume_sessions.specs.Watching.{IsOver}

-- an updater may begin, by the passes that it has of the board and of the seat
pub record MayUpdate {D : Type 0} (board : Lock (Published (VolumeNote D))) (seat : Lock (VolumeSeat D)) (vol place : ℕ) (board_pass vol_pass : Seeing) : Type 0 where
  pub lends : LendsBoard board board_pass
  pub comes : ComesToSeat board seat vol vol_pass
  pub writes : Writes vol_pass
  pub one : vol_pass.seats ≡ 1
  pub start : board.first.start ≤ vol_pass.story.number
  pub noted : IsNotedAt board.first.firsts place vol seat.first.volume
  pub within : vol_pass.story.number ≤ board_pass.story.number

-- an updater ended: its passes are of that board and of that seat, and where it has drained the board, all was applied that there is
pub record HasUpdated {D : Type 0} (board : LockId) (seat : Lock (VolumeSeat D)) (end : LoopEnd) : Type 0 where
  pub board_lock : end.board_pass.lock ≡ board
  pub lock : end.vol_pass.lock ≡ seat.id
  pub seats : end.vol_pass.seats ≡ 1
  pub writes : end.vol_pass.writes ≡ true
  pub drained : end.end ≡ Drained → IsDrained end.board_pass.story end.vol_pass.story

-- what was driven, from how the session was opened to how it was left, and then the board was finished
pub record HasDriven {D O : Type 0} (tells : Type 0) (files : D → Disk) (counts : D → Counts) (drives : Shown D → O → Shown D → Type 0) (opened : Shown D) (out : O) (pass : Seeing) (places : List (Place D)) : Type 0 where
  pub closed : Shown D
  pub same : closed.key ≡ opened.key
  pub driven : drives opened out closed
  pub over : IsOver tells files counts closed pass places
