-- What a reading in memory stands for.
use Rattle.std.specs.Prelude.{◌≡◌, ℕ, ◌-◌, Bool, true, List, [], ◌∷◌, ◌++◌, length, slice_get, Option, Some, None, Ok}
use Rattle.std.specs.Ordering.{is_lt}
use Rattle.rdf_types.specs.declared.records.Row.{Row}
use Rattle.rdf_types.specs.Places.{row_cmp}
use Rattle.rdf_codec.specs.declared.volume_blocks.VolumeBlock.{VolumeBlock}
use Rattle.rdf_codec.specs.VolumeReading.{volume_block_of}
use Rattle.rdf_gatelog.specs.Log.{open_blocks}
use Rattle.rdf_model.specs.Rows.{row_map, row_place}
use Rattle.keyed_blocks.specs.Bases.{Building, rises}
use Rattle.keyed_blocks.specs.Indexes.{Indexes}
use Rattle.rdf_volume.specs.declared.reading.BaseRead.{BaseRead}
use Rattle.rdf_volume.specs.declared.reading.TableRead.{TableRead}
use Rattle.rdf_volume.specs.declared.reading.Reading.{Reading}
use Rattle.rdf_volume.specs.declared.reading.Reading.TheVariants as reading
use Rattle.rdf_volume.specs.InUse.{IsTable}
use Rattle.rdf_volume.specs.Stages as stages
use Rattle.rdf_volume.specs.Stages.{stage_of, is_misplaced}

-- the row stands above the last one before it, where there is one
abbrev pub is_above : Option Row → Row → Bool
is_above None row = true
is_above (Some last) row = is_lt (row_cmp (row_place last) (row_place row))

-- the payloads are blocks of a base that isn't complete, of which so much is kept
pub record IsBaseRead (read : BaseRead) (payloads : List (List ℕ)) : Type 0 where
  pub so_far : Building
  pub stage : stage_of payloads ≡ stages.Building so_far
  pub shown : read.shown.rows ≡ row_map so_far.rows
  pub entries : read.entries.items ≡ so_far.found
  pub listed : read.listed ≡ so_far.listed
  pub rows : read.rows ≡ length so_far.rows
  pub last : read.last ≡ slice_get so_far.rows (length so_far.rows - 1)
  pub risen : rises so_far.rows ≡ true
  pub indexes : Indexes so_far.found so_far.rows payloads

-- the payloads are a complete base with batches behind it, of which the table is kept
pub record IsTableRead (read : TableRead) (payloads : List (List ℕ)) : Type 0 where
  pub stage : stage_of payloads ≡ stages.Complete read.table.shown.rows read.restart read.batches
  pub table : IsTable read.table payloads

-- the blocks with these payloads are read
abbrev pub IsRead : Reading → List (List ℕ) → Type 0
IsRead (reading.Building read) payloads = IsBaseRead read payloads
IsRead (reading.Complete read) payloads = IsTableRead read payloads

-- behind blocks with the payloads before stands a gate at that place, and the payload spells this block
pub record IsNext (before : List (List ℕ)) (payload : List ℕ) (at : ℕ) (block : VolumeBlock) : Type 0 where
  pub at_is : at ≡ length (open_blocks before)
  pub spelled : volume_block_of payload ≡ Ok block

-- the block of that payload is read behind the others, or it isn't in its place
abbrev pub ReadsOn : List (List ℕ) → List ℕ → Option Reading → Type 0
ReadsOn before payload None = is_misplaced (stage_of (before ++ payload ∷ [])) ≡ true
ReadsOn before payload (Some reading) = IsRead reading (before ++ payload ∷ [])
