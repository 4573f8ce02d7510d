-- The disk of a volume while a new base is written behind the old file.
use Rattle.std.specs.Prelude.{◌≡◌, ◌≢◌, ℕ, ◌+◌, false, List, [], ◌++◌, Some, None}
use Rattle.rdf_types.specs.declared.records.Row.{Row}
use Rattle.rdf_disk.specs.Files.{Disk}
use Rattle.rdf_codec.specs.declared.index_entries.IndexEntry.{IndexEntry}
use Rattle.rdf_model.specs.Rows.{row_map}
use Rattle.rdf_model.specs.Volumes.{Rows}
use Rattle.rdf_gatelog.specs.LogPlace.{LogPlace}
use Rattle.rdf_gatelog.specs.Logs.{Logs, Rests, RestsOpen, IsOpenIn}
use Rattle.keyed_blocks.specs.Indexes.{Indexes}
use Rattle.keyed_blocks.specs.Writing.{WriterView, IsWriting}
use Rattle.rdf_volume.specs.declared.table.RowTable.{RowTable}
use Rattle.rdf_volume.specs.InUse.{IsInUse, IsTable}
use Rattle.rdf_volume.specs.Stages.{Complete, stage_at, is_misplaced}

-- what the old file says, and its number
pub record Kept : Type 0 where
  pub file : ℕ
  pub rows : Rows
  pub restart : ℕ

-- The old file says this. The log behind it has no block yet, and there is no other file.
pub record IsBeforeBase (logs : Logs) (kept : Kept) : Type 0 where
  pub batches : ℕ
  pub this : stage_at (logs kept.file) ≡ Complete kept.rows kept.restart batches
  pub none : logs (kept.file + 1) ≡ Some []
  pub alone : (m : ℕ) → m ≢ kept.file → m ≢ kept.file + 1 → logs m ≡ None

-- the log of the base behind the old file is made
pub record IsUnderWay (disk : Disk) (end : ℕ) (kept : Kept) : Type 0 where
  pub logs : Logs
  pub before : IsBeforeBase logs kept
  pub rests : RestsOpen logs (kept.file + 1) end disk

-- these rows were pushed to the writer of the base behind the old file
pub record IsFilling (writer : WriterView) (rows : List Row) (kept : Kept) (disk : Disk) : Type 0 where
  pub logs : Logs
  pub before : IsBeforeBase logs kept
  pub writing : IsWriting logs writer rows disk
  pub file_is : writer.addition.file ≡ kept.file + 1

-- no row was pushed yet, and the table is that of the old file
pub record Fills (log : LogPlace) (table : RowTable) (kept : Kept) (writer : WriterView) (disk : Disk) : Type 0 where
  pub filling : IsFilling writer [] kept disk
  pub open_is : IsOpenIn filling.logs log.file log.end
  pub table_is : IsTable table open_is.payloads
  pub file_is : log.file ≡ kept.file
  pub rows_are : kept.rows ≡ table.shown.rows

-- The file behind the old one says this with its base alone, and the old one is still there.
pub record IsReplaced (disk : Disk) (end : ℕ) (kept : Kept) : Type 0 where
  pub logs : Logs
  pub rests : Rests logs disk
  pub log : IsOpenIn logs (kept.file + 1) end
  pub this : stage_at (logs (kept.file + 1)) ≡ Complete kept.rows kept.restart 0
  pub old : is_misplaced (stage_at (logs kept.file)) ≡ false
  pub alone : (m : ℕ) → m ≢ kept.file → m ≢ kept.file + 1 → logs m ≡ None

-- the index is that of blocks of these rows, among these payloads
pub record IsIndexOf (index : List IndexEntry) (rows : Rows) (payloads : List (List ℕ)) : Type 0 where
  pub base : List Row
  pub indexes : Indexes index base payloads
  pub rows_are : rows ≡ row_map base

-- the old file is replaced, and the index is that of the new one
abbrev pub IsReplacedBy : Disk → ℕ → List IndexEntry → Kept → Type 0
IsReplacedBy disk end index kept = (r : IsReplaced disk end kept) × IsIndexOf index kept.rows r.log.payloads

-- the disk is a volume's in use by this file, whatever it says
abbrev pub IsSomeInUse : Disk → ℕ → ℕ → Type 0
IsSomeInUse disk file end = (rows : Rows) × ((restart : ℕ) × ((batches : ℕ) × IsInUse disk file end rows restart batches))

-- the payloads are those before with more behind them
pub record GoesOn (before after : List (List ℕ)) : Type 0 where
  pub more : List (List ℕ)
  pub after_is : after ≡ before ++ more
