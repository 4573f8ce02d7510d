-- What the blocks of a trail's file say.
use Rattle.std.specs.Prelude.{◌≡◌, ℕ, List, [], ◌∷◌, ◌++◌, Option, Some, None, Ok}
use Rattle.rdf_types.specs.declared.records.Phase.{Phase}
use Rattle.rdf_codec.specs.declared.image_blocks.ImageBlock.{ImageBlock}
use Rattle.image_disks.specs.Blocks.{Block, Unspelled, Plan, entries, end_after, phase_after, AreInPlace}
use Rattle.image_disks.specs.Spelled.{as_block}
use Rattle.image_trails.specs.declared.said.Said.{Said}

-- a payload that spells no block is none
abbrev pub block_found : Option ImageBlock → Block
block_found None = Unspelled
block_found (Some b) = as_block (Ok b)

-- each of these blocks is in its place, and this is what they say
pub record IsReadOf (plan : Plan) (t start : ℕ) (phase : Phase) (blocks : List Block) (said : Said) : Type 0 where
  pub in_place : AreInPlace plan t start blocks
  pub end_is : said.end ≡ end_after start blocks
  pub phase_is : said.phase ≡ phase_after phase blocks
  pub part_is : said.part.items ≡ entries blocks

-- the block is in its place behind what was said so far, and this is said with it
pub record Follows (plan : Plan) (t : ℕ) (before : Said) (b : Block) (said : Said) : Type 0 where
  pub in_place : AreInPlace plan t before.end (b ∷ [])
  pub end_is : said.end ≡ end_after before.end (b ∷ [])
  pub phase_is : said.phase ≡ phase_after before.phase (b ∷ [])
  pub part_is : said.part.items ≡ before.part.items ++ entries (b ∷ [])
