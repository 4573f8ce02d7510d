-- Rows that will be one block, and blocks of an index that come behind all blocks of rows.
use Rattle.std.specs.Prelude.{◌≡◌, ℕ, ◌≤◌, true, List, length}
use Rattle.rdf_disk.specs.Files.{Disk}
use Rattle.rdf_types.specs.declared.records.Row.{Row}
use Rattle.rdf_codec.specs.VolumeBlocks.{rows_spelling}
use Rattle.rdf_codec.specs.declared.index_entries.IndexEntry.{IndexEntry}
use Rattle.rdf_gatelog.specs.Adding.{AdditionPlace, RestsAdding}
use Rattle.rdf_gatelog.specs.Logs.{Logs}
use Rattle.keyed_blocks.specs.Bases.{Building, Goes, base_after, rises}

-- the rows rise and fit into a block, whose payload has that many bytes
pub record FitsBlock (rows : List Row) (bytes : ℕ) : Type 0 where
  pub spelled : bytes ≡ length (rows_spelling rows)
  pub few : bytes ≤ 4096
  pub risen : rises rows ≡ true

-- behind blocks of rows with these entries, whichever they are, the payloads are an index of them all
pub record ListsAll (entries : List IndexEntry) (payloads : List (List ℕ)) : Type 0 where
  pub listed : (before : List (List ℕ)) (so_far : Building) → so_far.found ≡ entries → so_far.listed ≡ 0
      → base_after before (Goes so_far) payloads ≡ Goes (record so_far { listed = length entries })

-- some payloads are being added to one of some logs
abbrev pub IsSomeAdding : AdditionPlace → Disk → Type 0
IsSomeAdding place disk = (logs : Logs) × (more : List (List ℕ)) × RestsAdding logs place more disk
