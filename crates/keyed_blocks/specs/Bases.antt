-- A base: rows in order as blocks of a log, behind them the index of those blocks, and an end that counts them.
use Rattle.std.specs.Prelude.{ℕ, ◌+◌, ◌==◌, ◌&&◌, ◌||◌, Bool, List, [], ◌∷◌, ◌++◌, length, map, take, drop, Result, Ok, Err, if◌then◌else◌}
use Rattle.std.specs.Cmp.Lexicographic.{pointwise}
use Rattle.std.specs.FinMap.Entries.{is_sorted}
use Rattle.std.specs.Ordering.{eq_by_cmp}
use Rattle.rdf_types.specs.declared.records.Row.{Row}
use Rattle.rdf_types.specs.Places.{row_cmp}
use Rattle.rdf_codec.specs.declared.fault.CodecFault.{CodecFault}
use Rattle.rdf_codec.specs.declared.index_entries.IndexEntry.{IndexEntry}
use Rattle.rdf_codec.specs.declared.volume_blocks.VolumeBlock.{VolumeBlock}
use Rattle.rdf_codec.specs.declared.volume_blocks.VolumeBlock.TheVariants as block
use Rattle.rdf_codec.specs.VolumeReading.{volume_block_of}
use Rattle.rdf_gatelog.specs.Log.{open_blocks}
use Rattle.rdf_model.specs.Rows.{row_entry}

-- What the blocks say so far: the rows, an entry for each of their blocks, and how many of these entries blocks of the index have listed.
pub record Building : Type 0 where
  pub rows : List Row
  pub found : List IndexEntry
  pub listed : ℕ

-- Goes: the End is still to come. Ends: the base is whole, with these rows and an entry for each of their blocks. Misplaced: a block wasn't in its place.
pub data Base : Type 0 where
  Goes : (so_far : Building) → Base
  Ends : (rows : List Row) (found : List IndexEntry) (restart : ℕ) → Base
  Misplaced : Base

-- each row stands above the one before it
abbrev pub rises : List Row → Bool
rises rows = is_sorted row_cmp (map row_entry rows)

-- the entry of a block that stands at that place and begins with that row
abbrev pub entry_of : ℕ → Row → IndexEntry
entry_of at row = record { at = at; file = row.file; key = row.key }

-- where the first row of an entry's block stands on its volume
abbrev pub entry_place : IndexEntry → List ℕ × List ℕ
entry_place entry = (entry.file, entry.key)

-- both entries have one place and one row
abbrev pub same_entry : IndexEntry → IndexEntry → Bool
same_entry a b = (a.at == b.at) && eq_by_cmp row_cmp (entry_place a) (entry_place b)

-- the entries are those that come next in the index
abbrev pub are_next : Building → List IndexEntry → Bool
are_next so_far entries = pointwise same_entry entries (take (length entries) (drop so_far.listed so_far.found))

-- the index lists each block of rows, or there is none
abbrev pub is_listed : Building → Bool
is_listed so_far = (so_far.listed == 0) || (so_far.listed == length so_far.found)

-- with a block of rows more, which stands at that place
abbrev pub with_block : ℕ → Building → Row → List Row → Building
with_block at so_far row rows = record { rows = so_far.rows ++ row ∷ rows; found = so_far.found ++ entry_of at row ∷ []; listed = 0 }

-- rows, in the block whose gate stands at that place: there are some, nothing is listed yet, and they go on where the rows so far end
abbrev pub next_rows : ℕ → Building → List Row → Base
next_rows at so_far [] = Misplaced
next_rows at so_far (row ∷ rows) = if (so_far.listed == 0) && rises (so_far.rows ++ row ∷ rows) then Goes (with_block at so_far row rows) else Misplaced

-- entries, in a block of the index: there are some, and they are those that come next
abbrev pub next_entries : Building → List IndexEntry → Base
next_entries so_far [] = Misplaced
next_entries so_far (entry ∷ entries) = if are_next so_far (entry ∷ entries) then Goes (record so_far { listed = so_far.listed + length (entry ∷ entries) }) else Misplaced

-- The block whose gate stands at that place. Rows come before the index, and the End comes last: it counts the rows and their blocks.
abbrev pub next_in_base : ℕ → Building → VolumeBlock → Base
next_in_base at so_far (block.Rows rows) = next_rows at so_far rows
next_in_base at so_far (block.Index entries) = next_entries so_far entries
next_in_base at so_far (block.End restart rows blocks) =
    if (rows == length so_far.rows) && (blocks == length so_far.found) && is_listed so_far then Ends so_far.rows so_far.found restart else Misplaced
next_in_base at so_far (block.Batch restart changes) = Misplaced

-- nothing stands behind the End, and bytes that spell no block are in no place
abbrev pub after_block : ℕ → Base → Result VolumeBlock CodecFault → Base
after_block at (Goes so_far) (Ok b) = next_in_base at so_far b
after_block at (Goes so_far) (Err e) = Misplaced
after_block at (Ends rows found restart) read = Misplaced
after_block at Misplaced read = Misplaced

-- behind blocks with the payloads before
abbrev pub base_after : List (List ℕ) → Base → List (List ℕ) → Base
base_after before base [] = base
base_after before base (payload ∷ payloads) = base_after (before ++ payload ∷ []) (after_block (length (open_blocks before)) base (volume_block_of payload)) payloads

-- no block was read yet
abbrev pub nothing_yet : Building
nothing_yet = record { rows = []; found = []; listed = 0 }

-- what all blocks of a file say, as a base alone
abbrev pub base_of : List (List ℕ) → Base
base_of payloads = base_after [] (Goes nothing_yet) payloads

-- the rows of a block, none where it is one of another kind
abbrev pub rows_in : Result VolumeBlock CodecFault → List Row
rows_in (Ok (block.Rows rows)) = rows
rows_in (Ok (block.Index entries)) = []
rows_in (Ok (block.End restart rows blocks)) = []
rows_in (Ok (block.Batch restart changes)) = []
rows_in (Err e) = []

-- block by block, the rows
abbrev pub block_rows : List (List ℕ) → List (List Row)
block_rows payloads = map (λ payload. rows_in (volume_block_of payload)) payloads
