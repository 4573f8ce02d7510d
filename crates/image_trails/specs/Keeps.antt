-- What is left of what was held.
use Rattle.std.specs.Prelude.{ℕ, List}
use Rattle.rdf_types.specs.declared.records.Record.{Record}
use Rattle.rdf_disk.specs.Files.{Contents}
use Rattle.image_disks.specs.Blocks.{Block, Plan}
use Rattle.image_disks.specs.Values.{Value}
use Rattle.image_disks.specs.Standing.{StandsFor}
use Rattle.image_disks.specs.Held.{Holds}

-- the contents stand for a value that holds each of these trails
abbrev pub StandsHolding : (List ℕ → Block) → Plan → (List Record → Type 0) → Contents → Type 0
StandsHolding block_of plan H c = (w : Value) × StandsFor block_of plan w c × ((trail : List Record) → H trail → Holds plan trail w)
