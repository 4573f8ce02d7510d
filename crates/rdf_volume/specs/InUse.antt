-- The disk of a volume in use, and the table that the volume keeps of its rows.
use Rattle.std.specs.Prelude.{◌≡◌, ◌≢◌, ℕ, ◌-◌, ◌^◌, min, List, Some, None, slice_get}
use Rattle.rdf_types.specs.declared.records.Row.{Row}
use Rattle.rdf_disk.specs.Files.{Disk}
use Rattle.rdf_model.specs.Rows.{row_map}
use Rattle.rdf_model.specs.Volumes.{Rows}
use Rattle.rdf_gatelog.specs.Log.{IsAtRest}
use Rattle.rdf_gatelog.specs.LogPlace.{LogPlace}
use Rattle.rdf_gatelog.specs.Logs.{Logs, Rests, IsOpenIn}
use Rattle.keyed_blocks.specs.Bases.{block_rows}
use Rattle.keyed_blocks.specs.Indexes.{Indexes}
use Rattle.keyed_overlay.specs.Overlays.{overlaid}
use Rattle.rdf_volume.specs.declared.table.RowTable.{RowTable}
use Rattle.rdf_volume.specs.declared.block_cache.BlockRead.{BlockRead}
use Rattle.rdf_volume.specs.Stages.{Complete, stage_at}

-- a number of batches as it is counted: the count stays at its type's end
abbrev pub counted : ℕ → ℕ
counted batches = min batches (2 ^ 32 - 1)

-- The disk has this file alone, whose blocks end there and say these rows, this restart point and so many batches. Nothing is pending.
pub record IsInUse (disk : Disk) (file end : ℕ) (rows : Rows) (restart batches : ℕ) : Type 0 where
  pub logs : Logs
  pub rests : Rests logs disk
  pub log : IsOpenIn logs file end
  pub number : ℕ
  pub this : stage_at (logs file) ≡ Complete rows restart number
  pub batches_are : batches ≡ counted number
  pub alone : (m : ℕ) → m ≢ file → logs m ≡ None

-- The table is that of a log with these payloads: its index lists their blocks of rows, and what was changed of these rows gives those that it shows.
-- The blocks that were read last are some of them.
pub record IsTable (table : RowTable) (payloads : List (List ℕ)) : Type 0 where
  pub base : List Row
  pub indexes : Indexes table.index base payloads
  pub rows_are : table.shown.rows ≡ overlaid (row_map base) table.overlay
  pub kept : (place : ℕ) (read : BlockRead) → slice_get table.blocks place ≡ Some read → slice_get (block_rows indexes.blocks) read.number ≡ Some read.rows.items

-- the log is at rest, and the table is that of its payloads, whichever they are
abbrev pub IsSomeTable : RowTable → LogPlace → Disk → Type 0
IsSomeTable table log disk = (payloads : List (List ℕ)) × IsAtRest log.file log.end payloads disk × IsTable table payloads

-- the disk is in use by this file, and the table is that of its log
pub record IsTabled (disk : Disk) (file end : ℕ) (table : RowTable) (restart batches : ℕ) : Type 0 where
  pub in_use : IsInUse disk file end table.shown.rows restart batches
  pub table_is : IsTable table in_use.log.payloads
