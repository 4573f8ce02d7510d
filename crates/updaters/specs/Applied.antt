-- What the images of a part make of a volume.
use Rattle.std.specs.Prelude.{ℕ, ◌≤◌, List, filter_map}
use Rattle.rdf_types.specs.declared.records.Change.{Change}
use Rattle.rdf_types.specs.declared.records.Stamped.{Stamped}
use Rattle.rdf_types.specs.Entries.{before}
use Rattle.rdf_disk.specs.Files.{Contents}
use Rattle.rdf_model.specs.Volumes.{Rows}
use Rattle.rdf_model.specs.Window.{records}
use Rattle.rdf_volume.specs.Changes.{change_by, changed, changes_on}
use Rattle.rdf_volume.specs.Standing.{StandsFor}

-- the rows after the volume's images of the part below the position, in their order
abbrev pub applied : ℕ → List Stamped → ℕ → Rows → Rows
applied vol part upto rows = changed rows (changes_on vol (records (before upto part)))

-- the contents stand for what the volume's images up to some position from the one to the other make of these rows, with that restart point
pub record StandsApplied (vol : ℕ) (part : List Stamped) (from upto : ℕ) (rows : Rows) (contents : Contents) : Type 0 where
  pub reached : ℕ
  pub behind : from ≤ reached
  pub within : reached ≤ upto
  pub stands : StandsFor (applied vol part reached rows) reached contents

-- the changes that images of one volume make there, in their order
abbrev pub changes_by : List Stamped → List Change
changes_by images = filter_map change_by (records images)
