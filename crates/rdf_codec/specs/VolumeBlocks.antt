-- The one spelling of each block of a volume's file.
use Rattle.std.specs.Prelude.{ℕ, ◌<◌, ◌≤◌, ◌^◌, List, ◌∷◌, ◌++◌, length, map}
use Rattle.std.specs.Int.{w16, w32, w64, to_be_bytes}
use Rattle.std.specs.List.{All, flat_map}
use Rattle.std.specs.List.Sorted.{IsStrictlySortedBy}
use Rattle.rdf_types.specs.declared.records.Row.{Row}
use Rattle.rdf_types.specs.Limits.{IsFileName, IsKey}
use Rattle.rdf_types.specs.Places.{row_cmp}
use Rattle.rdf_codec.specs.declared.index_entries.IndexEntry.{IndexEntry}
use Rattle.rdf_codec.specs.declared.volume_blocks.VolumeBlock.{VolumeBlock}
use Rattle.rdf_codec.specs.declared.volume_blocks.VolumeBlock.TheVariants.{Rows, End, Batch, Index}
use Rattle.rdf_codec.specs.Spelling.{text, row_spelling, change_spelling, IsRow, IsChange}

-- where a row stands on its volume
abbrev pub row_place : Row → List ℕ × List ℕ
row_place row = (row.file, row.key)

-- the kind 33, how many rows, and the rows
abbrev pub rows_spelling : List Row → List ℕ
rows_spelling rows = 33 ∷ to_be_bytes w16 (length rows) ++ flat_map row_spelling rows

-- the place of a block of rows, and the file and the key of its first row
abbrev pub entry_spelling : IndexEntry → List ℕ
entry_spelling entry = to_be_bytes w64 entry.at ++ text entry.file ++ text entry.key

-- the kind 36, how many entries, and the entries
abbrev pub index_spelling : List IndexEntry → List ℕ
index_spelling entries = 36 ∷ to_be_bytes w16 (length entries) ++ flat_map entry_spelling entries

-- the kind, and behind it rows; or a restart point and two counts; or a restart point, how many changes, and the changes; or entries of an index
abbrev pub volume_spelling : VolumeBlock → List ℕ
volume_spelling (Rows rows) = rows_spelling rows
volume_spelling (End restart rows blocks) = 34 ∷ to_be_bytes w64 restart ++ to_be_bytes w32 rows ++ to_be_bytes w32 blocks
volume_spelling (Batch restart changes) = 35 ∷ to_be_bytes w64 restart ++ to_be_bytes w16 (length changes) ++ flat_map change_spelling changes
volume_spelling (Index entries) = index_spelling entries

-- at least one row, each above those before it, in at most 4,096 bytes
pub record FillsBlock (rows : List Row) : Type 0 where
  pub some : 0 < length rows
  pub rising : IsStrictlySortedBy row_cmp (map row_place rows)
  pub few : length (rows_spelling rows) ≤ 4096

-- at least one entry, and no more than can be counted in two bytes
pub record FillsIndex (entries : List IndexEntry) : Type 0 where
  pub some : 0 < length entries
  pub few : length entries ≤ 65535

-- a block that can be spelled
abbrev pub HasVolumeSpelling : VolumeBlock → Type 0
HasVolumeSpelling (Rows rows) = FillsBlock rows
HasVolumeSpelling (End restart rows blocks) = Unit {0}
HasVolumeSpelling (Batch restart changes) = length changes ≤ 64
HasVolumeSpelling (Index entries) = FillsIndex entries

-- an entry's place and texts are within the limits of their types
abbrev pub IsIndexEntry : IndexEntry → Type 0
IsIndexEntry entry = (entry.at < 2 ^ 64) × IsFileName entry.file × IsKey entry.key

-- what its fields' types say of a block
abbrev pub IsWithinTypes : VolumeBlock → Type 0
IsWithinTypes (Rows rows) = All IsRow rows
IsWithinTypes (End restart rows blocks) = (restart < 2 ^ 64) × (rows < 2 ^ 32) × (blocks < 2 ^ 32)
IsWithinTypes (Batch restart changes) = (restart < 2 ^ 64) × All IsChange changes
IsWithinTypes (Index entries) = All IsIndexEntry entries

-- a block that can be spelled, within the limits of the types
pub record IsVolumeBlock (block : VolumeBlock) : Type 0 where
  pub spelled : HasVolumeSpelling block
  pub within : IsWithinTypes block

-- how many bytes a block of its kind takes at most
abbrev pub most_bytes : VolumeBlock → ℕ
most_bytes (Rows rows) = 4096
most_bytes (End restart rows blocks) = 17
most_bytes (Batch restart changes) = 16139
most_bytes (Index entries) = 3801033
