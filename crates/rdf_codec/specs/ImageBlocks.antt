-- The one spelling of each block of an image trail's file.
use Rattle.std.specs.Prelude.{ℕ, ◌<◌, ◌^◌, List, ◌∷◌, ◌++◌}
use Rattle.std.specs.Int.{w64, to_be_bytes}
use Rattle.rdf_codec.specs.declared.image_blocks.ImageBlock.{ImageBlock}
use Rattle.rdf_codec.specs.declared.image_blocks.ImageBlock.TheVariants as block
use Rattle.rdf_codec.specs.Ships.{ship_spelling, HasShipSpelling, IsShip, phase_spelling, IsPhase}

-- the kind, and behind it where the generation starts and the phase; or a shipment; or a phase
abbrev pub image_spelling : ImageBlock → List ℕ
image_spelling (block.Start start phase) = 17 ∷ to_be_bytes w64 start ++ phase_spelling phase
image_spelling (block.Ship ship) = 18 ∷ ship_spelling ship
image_spelling (block.Mark phase) = 19 ∷ phase_spelling phase

-- a block that can be spelled
abbrev pub HasImageSpelling : ImageBlock → Type 0
HasImageSpelling (block.Start start phase) = Unit {0}
HasImageSpelling (block.Ship ship) = HasShipSpelling ship
HasImageSpelling (block.Mark phase) = Unit {0}

-- a block that can be spelled, within the limits of the types
abbrev pub IsImageBlock : ImageBlock → Type 0
IsImageBlock (block.Start start phase) = (start < 2 ^ 64) × IsPhase phase
IsImageBlock (block.Ship ship) = IsShip ship
IsImageBlock (block.Mark phase) = IsPhase phase
