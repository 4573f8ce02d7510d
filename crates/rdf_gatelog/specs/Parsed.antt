-- What going over the blocks of a file's bytes finds.
use Rattle.std.specs.Prelude.{◌≡◌, ℕ, List, length, map, Vec}
use Rattle.std.specs.declared.alloc.Global.{Global}
use Rattle.rdf_gatelog.specs.Log.{open_blocks, IsSpelled, IsBroken}
use Rattle.rdf_gatelog.specs.declared.blocks.ParseFault.{ParseFault}
use Rattle.rdf_gatelog.specs.declared.blocks.ParseFault.TheVariants.{NoMemory, Broken}

-- the payloads in memory, as lists
abbrev pub lists_of : List (Vec ℕ Global) → List (List ℕ)
lists_of payloads = map (λ w. w.items) payloads

-- blocks with these payloads and open gates, and at that place a gate that isn't open
pub record IsParsed (bytes : List ℕ) (payloads : List (List ℕ)) (end : ℕ) : Type 0 where
  pub spelled : IsSpelled payloads bytes
  pub end_is : end ≡ length (open_blocks payloads)

-- the bytes are broken at that place, or memory is wanting
abbrev pub ParseFails : List ℕ → ParseFault → Type 0
ParseFails bytes NoMemory = Unit {0}
ParseFails bytes (Broken at) = IsBroken bytes at
