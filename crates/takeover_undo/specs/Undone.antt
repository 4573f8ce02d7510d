-- What an undo that was cut off leaves of a volume.
use Rattle.std.specs.Prelude.{◌⊎◌, ℕ, ◌≤◌, List, length, take}
use Rattle.rdf_types.specs.declared.records.Change.{Change}
use Rattle.rdf_disk.specs.Files.{Contents}
use Rattle.rdf_model.specs.Volumes.{Rows}
use Rattle.rdf_volume.specs.Changes.{changed}
use Rattle.rdf_volume.specs.Standing.{StandsFor}

-- the contents stand for the rows after some first ones of the changes, with the low position as restart point
pub record StandsPartly (rows : Rows) (undo : List Change) (low : ℕ) (contents : Contents) : Type 0 where
  pub count : ℕ
  pub within : count ≤ length undo
  pub stands : StandsFor (changed rows (take count undo)) low contents

-- the contents stand for what was before, or for an undo with its restart point
abbrev pub StandsUndone : Rows → ℕ → List Change → ℕ → Contents → Type 0
StandsUndone rows restart undo low contents = StandsFor rows restart contents ⊎ StandsPartly rows undo low contents
