-- The block that a payload spells.
use Rattle.std.specs.Prelude.{ℕ, List, Result, Ok, Err}
use Rattle.rdf_codec.specs.declared.fault.CodecFault.{CodecFault}
use Rattle.rdf_codec.specs.declared.image_blocks.ImageBlock.{ImageBlock}
use Rattle.rdf_codec.specs.declared.image_blocks.ImageBlock.TheVariants as block
use Rattle.rdf_codec.specs.ImageReading.{image_block_of}
use Rattle.image_disks.specs.Blocks.{Block, Start, Ship, Mark, Unspelled}

-- a block that was read, or bytes that spell none
abbrev pub as_block : Result ImageBlock CodecFault → Block
as_block (Ok (block.Start start phase)) = Start start phase
as_block (Ok (block.Ship ship)) = Ship ship.from ship.to ship.part
as_block (Ok (block.Mark phase)) = Mark phase
as_block (Err e) = Unspelled

-- the block that takes the whole payload
unfoldable pub block_of : List ℕ → Block
block_of payload = as_block (image_block_of payload)
