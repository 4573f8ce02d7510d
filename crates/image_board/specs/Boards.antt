-- What a board is, what it stands for, and what it answers.
use Rattle.std.specs.Prelude.{◌≡◌, ◌≤◌, ◌<◌, ℕ, List, ◌++◌, length, slice_set, Bool, true}
use Rattle.rdf_types.specs.declared.records.Stamped.{Stamped}
use Rattle.rdf_types.specs.Entries.{Rises}
use Rattle.seated_lock.specs.declared.story.Story.{Story}
use Rattle.image_board.specs.declared.pieces.Piece.{Piece}
use Rattle.image_board.specs.Entries.{images_between}

-- a board: its entries, from the position where it started to its end, for how many there is memory, whether more may come, and the notes by their places, those that stood first and the present ones
pub record Published (N : Type 0) : Type 0 where
  pub start : ℕ
  pub items : List Stamped
  pub room : ℕ
  pub end : ℕ
  pub finished : Bool
  pub firsts : List N
  pub notes : List N

-- the board with these entries behind its own, up to that position
abbrev pub with_part : {N : Type 0} → Published N → List Stamped → ℕ → Published N
with_part b part end = record b { items = b.items ++ part; end = end }

-- the board with the note at that place
abbrev pub with_note : {N : Type 0} → Published N → ℕ → N → Published N
with_note b place note = record b { notes = slice_set b.notes place note }

-- the board, to which nothing more comes
abbrev pub closed : {N : Type 0} → Published N → Published N
closed b = record b { finished = true }

-- the board has the entries of the first one and then those of the story, and is finished exactly where the story has ended. The same notes stood first
pub record Shows {N : Type 0} (first : Published N) (story : Story) (b : Published N) : Type 0 where
  pub start : b.start ≡ first.start
  pub items : b.items ≡ first.items ++ story.entries
  pub ended : b.finished ≡ story.ended
  pub rises : Rises b.start b.items b.end
  pub firsts : b.firsts ≡ first.firsts

-- the first images of the volume from a position on, so many at the most, and all of them where there are fewer; it is told to be the last piece exactly where the board is finished and has nothing behind it
pub record IsPiece {N : Type 0} (vol from most : ℕ) (b : Published N) (piece : Piece) : Type 0 where
  pub images : piece.images.items ≡ images_between vol from piece.upto b.items
  pub few : length piece.images.items ≤ most
  pub behind : from ≤ piece.upto
  pub within : piece.upto ≤ b.end
  pub all : length piece.images.items < most → piece.upto ≡ b.end
  pub ended : piece.ended ≡ true → (b.finished ≡ true) × (piece.upto ≡ b.end)
  pub only : b.finished ≡ true → piece.upto ≡ b.end → piece.ended ≡ true
