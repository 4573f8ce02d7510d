-- Reading the blocks of an image trail's file.
use Rattle.std.specs.Prelude.{ℕ, List, [], ◌∷◌, Result, Ok}
use Rattle.std.specs.Int.{w64}
use Rattle.rdf_codec.specs.declared.fault.CodecFault.{CodecFault}
use Rattle.rdf_codec.specs.declared.image_blocks.ImageBlock.{ImageBlock}
use Rattle.rdf_codec.specs.declared.image_blocks.ImageBlock.TheVariants as block
use Rattle.rdf_codec.specs.Reading.{Rest, ◌>>=◌, number_at, tagged_at}
use Rattle.rdf_codec.specs.Lists.{whole}
use Rattle.rdf_codec.specs.ShipReading.{ship_at, phase_at}

-- the start of a generation, behind its kind
unfoldable pub start_at : Rest → Result (ImageBlock × Rest) CodecFault
start_at i = do
  start ← number_at w64 i
  phase ← phase_at start.1
  Ok (block.Start start.0 phase.0, phase.1)

-- a shipment, behind its kind
unfoldable pub shipped_at : Rest → Result (ImageBlock × Rest) CodecFault
shipped_at i = do
  ship ← ship_at i
  Ok (block.Ship ship.0, ship.1)

-- a mark, behind its kind
unfoldable pub mark_at : Rest → Result (ImageBlock × Rest) CodecFault
mark_at i = do
  phase ← phase_at i
  Ok (block.Mark phase.0, phase.1)

-- a block at the front
unfoldable pub image_block_at : Rest → Result (ImageBlock × Rest) CodecFault
image_block_at i = tagged_at ((17, start_at) ∷ (18, shipped_at) ∷ (19, mark_at) ∷ []) i

-- the block that takes the whole input
abbrev pub image_block_of : List ℕ → Result ImageBlock CodecFault
image_block_of bytes = whole image_block_at bytes
