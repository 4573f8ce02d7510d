-- Rows that are written, one after another, as the base of a log.
use Rattle.std.specs.Prelude.{◌≡◌, ◌⊎◌, ℕ, Bool, true, List, [], ◌++◌, length, Option, Some, None}
use Rattle.std.specs.List.{last_or}
use Rattle.std.specs.Ordering.{is_lt}
use Rattle.rdf_types.specs.declared.records.Row.{Row}
use Rattle.rdf_types.specs.Places.{row_cmp}
use Rattle.rdf_disk.specs.Files.{Disk, Contents}
use Rattle.rdf_codec.specs.declared.index_entries.IndexEntry.{IndexEntry}
use Rattle.rdf_gatelog.specs.Adding.{AdditionPlace, RestsAdding}
use Rattle.rdf_gatelog.specs.Log.{IsAtRest}
use Rattle.rdf_gatelog.specs.LogPlace.{LogPlace}
use Rattle.rdf_gatelog.specs.Logs.{Logs, Reads, RestsOpen, pushed_all}
use Rattle.rdf_model.specs.Rows.{row_place}
use Rattle.keyed_blocks.specs.Bases.{Goes, Ends, base_of, rises}
use Rattle.keyed_blocks.specs.Indexes.{Indexes}

-- A writer of a base: the addition of its blocks, an entry for each block of rows that was added, the rows that will be the next one, and how many there are in all.
pub record WriterView : Type 0 where
  pub addition : AdditionPlace
  pub entries : List IndexEntry
  pub pending : List Row
  pub rows : ℕ

-- the row stands above that one, where there is one
abbrev pub is_over : Option Row → Row → Bool
is_over None row = true
is_over (Some last) row = is_lt (row_cmp (row_place last) (row_place row))

-- the row stands above the last of the rows, where there are any
abbrev pub is_next : List Row → Row → Bool
is_next rows row = is_over (last_or None rows) row

-- Rows that rise, the last of them pending. The others stand in blocks of rows behind the closed gate of a log that has no block, each with its entry.
pub record AreWritten (logs : Logs) (writer : WriterView) (rows : List Row) (disk : Disk) : Type 0 where
  pub written : List Row
  pub blocks : List (List ℕ)
  pub adding : RestsAdding logs writer.addition blocks disk
  pub none : logs writer.addition.file ≡ Some []
  pub base : base_of blocks ≡ Goes (record { rows = written; found = writer.entries; listed = 0 })
  pub rows_are : rows ≡ written ++ writer.pending
  pub count : writer.rows ≡ length rows
  pub risen : rises rows ≡ true

-- these rows were pushed to the writer, and the last one is pending where there are any
pub record IsWriting (logs : Logs) (writer : WriterView) (rows : List Row) (disk : Disk) : Type 0 where
  pub are : AreWritten logs writer rows disk
  pub begun : writer.pending ≡ [] → rows ≡ []

-- some rows were pushed to the writer, over some logs
abbrev pub IsSomeWriting : WriterView → Disk → Type 0
IsSomeWriting writer disk = (logs : Logs) × (rows : List Row) × IsWriting logs writer rows disk

-- the log that had no block is at rest as a whole base of these rows, and the index is that of its blocks
pub record IsWritten (logs : Logs) (log : LogPlace) (index : List IndexEntry) (rows : List Row) (restart : ℕ) (disk : Disk) : Type 0 where
  pub payloads : List (List ℕ)
  pub rests : RestsOpen (pushed_all logs log.file payloads) log.file log.end disk
  pub at_rest : IsAtRest log.file log.end payloads disk
  pub base : base_of payloads ≡ Ends rows index restart
  pub indexes : Indexes index rows payloads

-- the contents are the logs with a whole base of these rows in that file
pub record ReadsBase (logs : Logs) (file : ℕ) (rows : List Row) (restart : ℕ) (c : Contents) : Type 0 where
  pub payloads : List (List ℕ)
  pub index : List IndexEntry
  pub base : base_of payloads ≡ Ends rows index restart
  pub reads : Reads (pushed_all logs file payloads) c

-- the contents are the logs without the base or with it
abbrev pub ReadsBaseOrNot : Logs → ℕ → List Row → ℕ → Contents → Type 0
ReadsBaseOrNot logs file rows restart c = Reads logs c ⊎ ReadsBase logs file rows restart c
