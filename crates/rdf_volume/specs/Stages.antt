-- What the blocks of a volume's file say, one after the other, and which are in their place.
use Rattle.std.specs.Prelude.{ℕ, ◌+◌, Bool, true, false, List, [], ◌∷◌, ◌++◌, length, Option, Some, None, Result, Ok, Err}
use Rattle.rdf_codec.specs.declared.fault.CodecFault.{CodecFault}
use Rattle.rdf_codec.specs.declared.volume_blocks.VolumeBlock.{VolumeBlock}
use Rattle.rdf_codec.specs.declared.volume_blocks.VolumeBlock.TheVariants as block
use Rattle.rdf_codec.specs.VolumeReading.{volume_block_of}
use Rattle.rdf_gatelog.specs.Log.{open_blocks}
use Rattle.rdf_model.specs.Rows.{row_map}
use Rattle.rdf_model.specs.Volumes.{Rows}
use Rattle.keyed_blocks.specs.Bases as bases
use Rattle.keyed_blocks.specs.Bases.{Base, next_in_base, nothing_yet}
use Rattle.rdf_volume.specs.Changes.{changed}

-- Building: the base isn't complete, and its blocks say so much.
-- Complete: the rows of the base with all batches applied, the last restart point, and the number of batches.
-- Misplaced: a block wasn't in its place.
pub data Stage : Type 0 where
  Building : (so_far : bases.Building) → Stage
  Complete : (rows : Rows) (restart batches : ℕ) → Stage
  Misplaced : Stage

-- what the blocks of a base say, as a stage of the file
abbrev pub stage_in_base : Base → Stage
stage_in_base (bases.Goes so_far) = Building so_far
stage_in_base (bases.Ends rows found restart) = Complete (row_map rows) restart 0
stage_in_base bases.Misplaced = Misplaced

-- The block whose gate stands at that place. The base comes first, with its End as its last block; batches come behind it.
abbrev pub next : ℕ → Stage → VolumeBlock → Stage
next at (Building so_far) b = stage_in_base (next_in_base at so_far b)
next at (Complete rows point batches) (block.Rows more) = Misplaced
next at (Complete rows point batches) (block.Index entries) = Misplaced
next at (Complete rows point batches) (block.End restart count blocks) = Misplaced
next at (Complete rows point batches) (block.Batch restart changes) = Complete (changed rows changes) restart (batches + 1)
next at Misplaced b = Misplaced

-- bytes that spell no block are in no place
abbrev pub after_block : ℕ → Stage → Result VolumeBlock CodecFault → Stage
after_block at stage (Ok b) = next at stage b
after_block at stage (Err e) = Misplaced

-- behind blocks with the payloads before, after the block of a payload
abbrev pub after_payload : List (List ℕ) → Stage → List ℕ → Stage
after_payload before stage payload = after_block (length (open_blocks before)) stage (volume_block_of payload)

-- behind blocks with the payloads before, after all of these
abbrev pub stage_after : List (List ℕ) → Stage → List (List ℕ) → Stage
stage_after before stage [] = stage
stage_after before stage (payload ∷ payloads) = stage_after (before ++ payload ∷ []) (after_payload before stage payload) payloads

-- no block was read yet
abbrev pub unread : Stage
unread = Building nothing_yet

-- after all blocks of a file
abbrev pub stage_of : List (List ℕ) → Stage
stage_of payloads = stage_after [] unread payloads

-- a file that isn't there has no block
abbrev pub stage_at : Option (List (List ℕ)) → Stage
stage_at None = unread
stage_at (Some payloads) = stage_of payloads

abbrev pub is_building : Stage → Bool
is_building (Building so_far) = true
is_building (Complete rows restart batches) = false
is_building Misplaced = false

abbrev pub is_complete : Stage → Bool
is_complete (Building so_far) = false
is_complete (Complete rows restart batches) = true
is_complete Misplaced = false

abbrev pub is_misplaced : Stage → Bool
is_misplaced (Building so_far) = false
is_misplaced (Complete rows restart batches) = false
is_misplaced Misplaced = true
