-- What a file of blocks stands for. A block is a gate of one byte, the length of a payload, and the payload.
use Rattle.std.specs.Prelude.{◌≡◌, ◌≢◌, ◌⊎◌, ℕ, ◌+◌, ◌<◌, ◌≤◌, ◌^◌, List, [], ◌∷◌, ◌++◌, length, map, Option, Some, None, Vec}
use Rattle.std.specs.List.{AllByRecursion}
use Rattle.std.specs.Int.{to_be_bytes, w32}
use Rattle.std.specs.declared.alloc.Global.{Global}
use Rattle.rdf_disk.specs.Files.{Disk, settled}

-- what a block may hold
abbrev pub IsPayload : List ℕ → Type 0
IsPayload payload = (1 ≤ length payload) × (length payload ≤ 65536)

-- a payload behind its length
abbrev pub framed : List ℕ → List ℕ
framed payload = to_be_bytes w32 (length payload) ++ payload

-- the payloads as blocks, each with an open gate, which is 1
abbrev pub open_blocks : List (List ℕ) → List ℕ
open_blocks [] = []
open_blocks (payload ∷ payloads) = (1 ∷ framed payload) ++ open_blocks payloads

-- the bytes are blocks with these payloads and open gates, then a gate that isn't open, and then any bytes
pub record IsSpelled (payloads : List (List ℕ)) (bytes : List ℕ) : Type 0 where
  pub gate : ℕ
  pub rest : List ℕ
  pub shut : gate ≢ 1
  pub bytes_are : bytes ≡ open_blocks payloads ++ gate ∷ rest
  pub fit : AllByRecursion IsPayload payloads

-- the bytes are a log of these payloads; at most one byte is a log of none, whatever the byte is
abbrev pub IsLog : List (List ℕ) → List ℕ → Type 0
IsLog payloads bytes = ((length bytes ≤ 1) × (payloads ≡ [])) ⊎ IsSpelled payloads bytes

-- the file is there, and is a log of these payloads
abbrev pub IsLogFile : List (List ℕ) → Option (List ℕ) → Type 0
IsLogFile payloads None = ⊥
IsLogFile payloads (Some bytes) = IsLog payloads bytes

-- the log of a file as its last call left it: it has these payloads, its blocks end at that place, and nothing of the file is pending
pub record IsAtRest (file end : ℕ) (payloads : List (List ℕ)) (disk : Disk) : Type 0 where
  pub bytes : List ℕ
  pub file_is : disk file ≡ settled (Some bytes)
  pub spelled : IsSpelled payloads bytes
  pub end_is : end ≡ length (open_blocks payloads)

-- of blocks with these payloads, the one whose gate stands at that place, and its payload
pub record IsBlockAt (payloads : List (List ℕ)) (at : ℕ) (payload : List ℕ) : Type 0 where
  pub before : List (List ℕ)
  pub after : List (List ℕ)
  pub payloads_are : payloads ≡ before ++ payload ∷ after
  pub at_is : at ≡ length (open_blocks before)

-- at that place of the bytes stands an open gate, and behind it a block with this payload
pub record StandsAt (bytes : List ℕ) (at : ℕ) (payload : List ℕ) : Type 0 where
  pub front : List ℕ
  pub rest : List ℕ
  pub bytes_are : bytes ≡ front ++ ((1 ∷ framed payload) ++ rest)
  pub at_is : at ≡ length front
  pub fits : IsPayload payload
  pub near : at + 5 < 2 ^ 64

-- the gate of one of the blocks stands at that place
abbrev pub IsPlace : List (List ℕ) → ℕ → Type 0
IsPlace payloads at = (payload : List ℕ) × IsBlockAt payloads at payload

-- an open gate stands at that place, behind whole blocks, and after it no length from 1 to 65,536 with a payload of that length and a gate
pub record IsBroken (bytes : List ℕ) (at : ℕ) : Type 0 where
  pub payloads : List (List ℕ)
  pub tail : List ℕ
  pub bytes_are : bytes ≡ open_blocks payloads ++ 1 ∷ tail
  pub at_is : at ≡ length (open_blocks payloads)
  pub fit : AllByRecursion IsPayload payloads
  pub no_block : (payload rest : List ℕ) → IsPayload payload → tail ≡ framed payload ++ rest → 1 ≤ length rest → ⊥

-- the file is absent, or is longer than a byte and broken there
abbrev pub IsDamaged : Option (List ℕ) → ℕ → Type 0
IsDamaged None at = at ≡ 0
IsDamaged (Some bytes) at = (2 ≤ length bytes) × IsBroken bytes at

-- the payloads in memory, as lists
abbrev pub payloads_of : Vec (Vec ℕ Global) Global → List (List ℕ)
payloads_of v = map (λ w. w.items) v.items
