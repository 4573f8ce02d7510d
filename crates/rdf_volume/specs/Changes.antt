-- What changes make of the rows of a volume.
use Rattle.std.specs.Prelude.{ℕ, ◌==◌, List, Option, Some, None, if◌then◌else◌, fold, filter_map}
use Rattle.std.specs.FinMap.{insert, remove}
use Rattle.rdf_types.specs.declared.records.Change.{Change}
use Rattle.rdf_types.specs.declared.records.Record.{Record}
use Rattle.rdf_types.specs.declared.records.Record.TheVariants.{Image, Commit, Abort}
use Rattle.rdf_types.specs.declared.records.Row.{Row}
use Rattle.rdf_model.specs.Rows.{row_place}
use Rattle.rdf_model.specs.Volumes.{Rows}

-- the rows with a value set at a place, or with the place emptied
abbrev pub with_value_at : Rows → List ℕ × List ℕ → Option (List ℕ) → Rows
with_value_at rows place None = remove rows place
with_value_at rows place (Some value) = insert rows place value

-- the rows after one change
abbrev pub with_change : Rows → Change → Rows
with_change rows c = with_value_at rows (c.file, c.key) c.after

-- the rows after all changes, in their order
abbrev pub changed : Rows → List Change → Rows
changed rows changes = fold with_change rows changes

-- the rows with one row more
abbrev pub with_row : Rows → Row → Rows
with_row rows row = insert rows (row_place row) row.value

-- the change that an image makes on its own volume; other records make none
abbrev pub change_by : Record → Option Change
change_by (Image txn vol file key before after) = Some (record { file = file; key = key; after = after })
change_by (Commit txn) = None
change_by (Abort txn) = None

-- the change that an image of the volume makes there; other records make none
abbrev pub change_on : ℕ → Record → Option Change
change_on vol (Image txn v file key before after) = if v == vol then Some (record { file = file; key = key; after = after }) else None
change_on vol (Commit txn) = None
change_on vol (Abort txn) = None

-- the changes that the images of the volume make, in their order
abbrev pub changes_on : ℕ → List Record → List Change
changes_on vol trail = filter_map (change_on vol) trail
