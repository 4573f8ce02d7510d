-- Reading the blocks of a volume's file.
use Rattle.std.specs.Prelude.{ℕ, ◌==◌, ◌&&◌, Bool, true, false, nat_lt, List, [], ◌∷◌, length, Option, Some, None, Result, Ok, Err, if◌then◌else◌}
use Rattle.std.specs.Int.{w32, w64}
use Rattle.std.specs.Ordering.{is_lt}
use Rattle.rdf_types.specs.declared.records.Row.{Row}
use Rattle.rdf_types.specs.declared.records.Change.{Change}
use Rattle.rdf_types.specs.Places.{row_cmp}
use Rattle.rdf_codec.specs.declared.fault.CodecFault.{CodecFault}
use Rattle.rdf_codec.specs.declared.fault.CodecFault.TheVariants.{BadNumber}
use Rattle.rdf_codec.specs.declared.index_entries.IndexEntry.{IndexEntry}
use Rattle.rdf_codec.specs.declared.volume_blocks.VolumeBlock.{VolumeBlock}
use Rattle.rdf_codec.specs.declared.volume_blocks.VolumeBlock.TheVariants.{Rows, End, Batch, Index}
use Rattle.rdf_codec.specs.Reading.{Rest, ◌>>=◌, number_at, allowed, tagged_at, file_at, key_at, value_at, optional_at}
use Rattle.rdf_codec.specs.Lists.{counted_at, whole}
use Rattle.rdf_codec.specs.VolumeBlocks.{row_place}

-- the place is above the last row's
abbrev pub is_above : Option (List ℕ × List ℕ) → List ℕ × List ℕ → Bool
is_above None place = true
is_above (Some last) place = is_lt (row_cmp last place)

-- a file and a key
abbrev pub file_key_at : Rest → Result ((List ℕ × List ℕ) × Rest) CodecFault
file_key_at i = do
  file ← file_at i
  key ← key_at file.1
  Ok ((file.0, key.0), key.1)

-- the place of a row, which is above the last one's
unfoldable pub place_at : Option (List ℕ × List ℕ) → Rest → Result ((List ℕ × List ℕ) × Rest) CodecFault
place_at last i = do
  place ← file_key_at i
  allowed (is_above last place.0) i.at place

-- a row above the last one
unfoldable pub row_at : Option (List ℕ × List ℕ) → Rest → Result (Row × Rest) CodecFault
row_at last i = do
  place ← place_at last i
  value ← value_at place.1
  Ok (record { file = place.0.0; key = place.0.1; value = value.0 }, value.1)

-- what the next row is to be above
abbrev pub next_row : Row → Option (List ℕ × List ℕ)
next_row row = Some (row_place row)

-- a change
unfoldable pub change_at : Rest → Result (Change × Rest) CodecFault
change_at i = do
  file ← file_at i
  key ← key_at file.1
  after ← optional_at key.1
  Ok (record { file = file.0; key = key.0; after = after.0 }, after.1)

-- an entry of an index
unfoldable pub entry_at : Rest → Result (IndexEntry × Rest) CodecFault
entry_at i = do
  place ← number_at w64 i
  file ← file_at place.1
  key ← key_at file.1
  Ok (record { at = place.0; file = file.0; key = key.0 }, key.1)

-- a block of rows, behind its kind
unfoldable pub rows_at : Rest → Result (VolumeBlock × Rest) CodecFault
rows_at i = do
  rows ← counted_at row_at next_row 1 65535 None i
  Ok (Rows rows.0, rows.1)

-- an end, behind its kind
unfoldable pub end_at : Rest → Result (VolumeBlock × Rest) CodecFault
end_at i = do
  restart ← number_at w64 i
  rows ← number_at w32 restart.1
  blocks ← number_at w32 rows.1
  Ok (End restart.0 rows.0 blocks.0, blocks.1)

-- a batch, behind its kind
unfoldable pub batch_at : Rest → Result (VolumeBlock × Rest) CodecFault
batch_at i = do
  restart ← number_at w64 i
  changes ← counted_at {S = ℕ} (λ _. change_at) (λ _. 0) 0 64 0 restart.1
  Ok (Batch restart.0 changes.0, changes.1)

-- a block of an index, behind its kind
unfoldable pub index_at : Rest → Result (VolumeBlock × Rest) CodecFault
index_at i = do
  entries ← counted_at {S = ℕ} (λ _. entry_at) (λ _. 0) 1 65535 0 i
  Ok (Index entries.0, entries.1)

-- a block at the front
unfoldable pub volume_block_at : Rest → Result (VolumeBlock × Rest) CodecFault
volume_block_at i = tagged_at ((33, rows_at) ∷ (34, end_at) ∷ (35, batch_at) ∷ (36, index_at) ∷ []) i

-- bytes that begin as rows do and are too many for a block of rows
abbrev pub is_too_long : List ℕ → Bool
is_too_long [] = false
is_too_long (kind ∷ bytes) = (kind == 33) && nat_lt 4096 (length (kind ∷ bytes))

-- the block that takes the whole input
abbrev pub volume_block_of : List ℕ → Result VolumeBlock CodecFault
volume_block_of bytes = if is_too_long bytes then Err (BadNumber 0) else whole volume_block_at bytes
