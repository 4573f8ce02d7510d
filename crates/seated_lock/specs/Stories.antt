-- Stories, and which of them begin which.
use Rattle.std.specs.Prelude.{◌≡◌, ℕ, List, [], ◌++◌, Bool, true, false}
use Rattle.rdf_types.specs.declared.records.Stamped.{Stamped}
use Rattle.rdf_types.specs.Entries.{Rises}
use Rattle.seated_lock.specs.declared.story.Story.{Story}

-- the story of a first value with this number
abbrev pub untold : ℕ → Story
untold n = record { entries = []; number = n; ended = false }

-- the story with these entries behind it, up to that number
abbrev pub with_more : Story → List Stamped → ℕ → Story
with_more s es n = record s { entries = s.entries ++ es; number = n }

-- the story, which has ended
abbrev pub over : Story → Story
over s = record s { ended = true }

-- The one story begins the other: what comes later lies from the one's number to below the other's, and a story that has ended is the whole
pub record Begins (part whole : Story) : Type 0 where
  pub later : List Stamped
  pub entries : whole.entries ≡ part.entries ++ later
  pub rises : Rises part.number later whole.number
  pub ended : part.ended ≡ true → whole ≡ part

-- what one turn may make of a story
pub record Grows (writes : Bool) (before after : Story) : Type 0 where
  pub begins : Begins before after
  pub same : writes ≡ false → after ≡ before
