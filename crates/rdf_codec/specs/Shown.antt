-- What the fields in an input stand for.
use Rattle.std.specs.Prelude.{ℕ, ◌<◌, List, Option, Some, None}
use Rattle.std.specs.Option.{option_copied}
use Rattle.rdf_types.specs.declared.records.Change.{Change}
use Rattle.rdf_types.specs.declared.records.Record.{Record}
use Rattle.rdf_types.specs.declared.records.Record.TheVariants.{Image, Commit, Abort}
use Rattle.rdf_types.specs.declared.records.Row.{Row}
use Rattle.rdf_types.specs.declared.records.Stamped.{Stamped}
use Rattle.rdf_codec.specs.declared.record_fields.RecordFields.{RecordFields}
use Rattle.rdf_codec.specs.declared.record_fields.RecordFields.TheVariants as fields
use Rattle.rdf_codec.specs.declared.row_fields.RowFields.{RowFields}
use Rattle.rdf_codec.specs.declared.row_fields.ChangeFields.{ChangeFields}
use Rattle.rdf_codec.specs.declared.row_fields.EntryFields.{EntryFields}
use Rattle.rdf_codec.specs.declared.index_entries.IndexEntry.{IndexEntry}
use Rattle.rdf_codec.specs.declared.ship_reading.StampedFields.{StampedFields}

-- the record of the same fields
abbrev pub record_of : RecordFields → Record
record_of (fields.Image txn vol file key before after) = Image txn vol file.now key.now (option_copied before) (option_copied after)
record_of (fields.Commit txn) = Commit txn
record_of (fields.Abort txn) = Abort txn

-- an image's volume is 0 to 15
abbrev pub HasVolume : RecordFields → Type 0
HasVolume (fields.Image txn vol file key before after) = vol < 16
HasVolume (fields.Commit txn) = Unit {0}
HasVolume (fields.Abort txn) = Unit {0}

-- the row of the same fields
abbrev pub row_of : RowFields → Row
row_of fields = record { file = fields.file.now; key = fields.key.now; value = fields.value.now }

-- the place of the row, where there is one
abbrev pub place_in : Option RowFields → Option (List ℕ × List ℕ)
place_in None = None
place_in (Some fields) = Some (fields.file.now, fields.key.now)

-- the change of the same fields
abbrev pub change_of : ChangeFields → Change
change_of fields = record { file = fields.file.now; key = fields.key.now; after = option_copied fields.after }

-- the entry of the same fields
abbrev pub entry_of : EntryFields → IndexEntry
entry_of fields = record { at = fields.at; file = fields.file.now; key = fields.key.now }

-- the record of the same fields, at its position
abbrev pub stamped_of : StampedFields → Stamped
stamped_of fields = record { pos = fields.pos; rec = record_of fields.rec }
