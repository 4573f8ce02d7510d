-- Reading the rows of a base through the entries of its blocks.
use Rattle.std.specs.Prelude.{◌≡◌, ℕ, List, [], ◌∷◌, ◌++◌, Ok, Some, slice_get}
use Rattle.rdf_disk.specs.Files.{Disk}
use Rattle.rdf_types.specs.declared.records.Row.{Row}
use Rattle.rdf_codec.specs.declared.index_entries.IndexEntry.{IndexEntry}
use Rattle.rdf_codec.specs.declared.volume_blocks.VolumeBlock.TheVariants as block
use Rattle.rdf_codec.specs.VolumeReading.{volume_block_of}
use Rattle.rdf_gatelog.specs.Log.{IsAtRest, IsBlockAt}
use Rattle.rdf_gatelog.specs.LogPlace.{LogPlace}
use Rattle.keyed_blocks.specs.Bases.{Goes, base_of}

-- the payloads begin with blocks of these rows, one for each entry of the index
pub record Indexes (index : List IndexEntry) (rows : List Row) (payloads : List (List ℕ)) : Type 0 where
  pub blocks : List (List ℕ)
  pub behind : List (List ℕ)
  pub payloads_are : payloads ≡ blocks ++ behind
  pub base : base_of blocks ≡ Goes (record { rows = rows; found = index; listed = 0 })

-- the log is at rest, and the index is that of its rows, whichever they are
pub record IsIndexed (index : List IndexEntry) (log : LogPlace) (disk : Disk) : Type 0 where
  pub rows : List Row
  pub payloads : List (List ℕ)
  pub at_rest : IsAtRest log.file log.end payloads disk
  pub indexes : Indexes index rows payloads

-- an entry of the index has that place
pub record IsPlaceIn (index : List IndexEntry) (at : ℕ) : Type 0 where
  pub entry : IndexEntry
  pub number : ℕ
  pub here : slice_get index number ≡ Some entry
  pub at_is : at ≡ entry.at

-- of blocks with these payloads, the one whose gate stands at that place is one of these rows
pub record IsRowsAt (payloads : List (List ℕ)) (at : ℕ) (rows : List Row) : Type 0 where
  pub payload : List ℕ
  pub stands : IsBlockAt payloads at payload
  pub spelled : volume_block_of payload ≡ Ok (block.Rows rows)

-- the log is at rest, and a block of rows stands at that place, whichever they are
pub record HasRowsAt (log : LogPlace) (at : ℕ) (disk : Disk) : Type 0 where
  pub rows : List Row
  pub payloads : List (List ℕ)
  pub at_rest : IsAtRest log.file log.end payloads disk
  pub stands : IsRowsAt payloads at rows

-- the lists, one behind another
abbrev pub joined : List (List Row) → List Row
joined [] = []
joined (rows ∷ more) = rows ++ joined more
