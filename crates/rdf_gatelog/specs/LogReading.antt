-- A log that is read block by block.
use Rattle.std.specs.Prelude.{◌≡◌, ◌⊎◌, ℕ, ◌≤◌, List, [], ◌∷◌, ◌++◌, length, Option, Some, None, Result, Ok, Err, MatchResult, Vec}
use Rattle.std.specs.declared.alloc.Global.{Global}
use Rattle.std.specs.List.{AllByRecursion}
use Rattle.std.specs.Option.{option_map}
use Rattle.rdf_disk.specs.Files.{Disk, settled}
use Rattle.rdf_disk.specs.Outcomes.{Narrows}
use Rattle.rdf_disk.specs.Calls.{Same}
use Rattle.rdf_gatelog.specs.declared.fault.LogFault.{LogFault}
use Rattle.rdf_gatelog.specs.Log.{IsPayload, open_blocks, IsAtRest}
use Rattle.rdf_gatelog.specs.LogCalls.{OthersSynced, OthersNarrow, SameLog, gated}

-- where a reader of a log stands: its file, and the place of the gate that it reads next
pub record ReaderPlace : Type 0 where
  pub file : ℕ
  pub at : ℕ

-- Blocks with these payloads were given, and the reader stands behind them. Nothing of the file is pending, and its first gate is whole.
pub record IsReading (place : ReaderPlace) (given : List (List ℕ)) (disk : Disk) : Type 0 where
  pub bytes : List ℕ
  pub rest : List ℕ
  pub file_is : disk place.file ≡ settled (Some bytes)
  pub bytes_are : bytes ≡ open_blocks given ++ rest
  pub left : 1 ≤ length rest
  pub whole : (2 ≤ length bytes) ⊎ (bytes ≡ 0 ∷ [])
  pub at_is : place.at ≡ length (open_blocks given)
  pub fit : AllByRecursion IsPayload given

-- a file was opened for reading: none of its blocks was given yet, and it is the log that it was
pub record Begun (place : ReaderPlace) (old new : Disk) : Type 0 where
  pub reading : IsReading place [] new
  pub bytes : (new place.file).seen ≡ option_map gated (old place.file).seen
  pub same : SameLog (old place.file).seen (new place.file).seen
  pub others : OthersSynced place.file old new

-- The opening of a file for reading. After an Err no other file may be more than it might have been.
abbrev pub Begins : ℕ → Result ReaderPlace LogFault → Disk → Disk → Type 0
Begins file result old new = MatchResult result (λ place. Begun place old new) (λ e. OthersNarrow file old new)

-- behind the blocks that were given stands one with this payload, or they are all, and the log is at rest
abbrev pub Gives : ReaderPlace → List (List ℕ) → Option (Vec ℕ Global) → Disk → Type 0
Gives next given None new = IsAtRest next.file next.at given new
Gives next given (Some payload) new = IsReading next (given ++ payload.items ∷ []) new
