-- Blocks that are added one by one behind the closed gate of a log, and count all at once when that gate is opened.
use Rattle.std.specs.Prelude.{◌≡◌, ◌≢◌, ℕ, ◌+◌, ◌≤◌, List, [], ◌∷◌, ◌++◌, false, length, Some, Result, Ok, Err}
use Rattle.std.specs.List.{AllByRecursion}
use Rattle.rdf_disk.specs.Files.{Disk}
use Rattle.rdf_disk.specs.Outcomes.{Surely}
use Rattle.rdf_gatelog.specs.declared.fault.LogFault.{LogFault}
use Rattle.rdf_gatelog.specs.Log.{IsPayload, framed, open_blocks, IsLogFile, IsAtRest}
use Rattle.rdf_gatelog.specs.LogCalls.{OthersSynced, OthersNarrow, IsBeforeOrAfterAll}
use Rattle.rdf_gatelog.specs.Logs.{Logs, RestsAt}

-- an addition to the log of a file: where the closed gate stands, and where the blocks end that were added behind it
pub record AdditionPlace : Type 0 where
  pub file : ℕ
  pub gate : ℕ
  pub end : ℕ

-- what is written for these payloads: each behind its length, and the open gate of the block behind it
abbrev pub added : List (List ℕ) → List ℕ
added [] = []
added (payload ∷ more) = (framed payload ++ 1 ∷ []) ++ added more

-- each of these writes begins at that place or behind it
abbrev pub AreFrom : ℕ → List (ℕ × ℕ) → Type 0
AreFrom at [] = Unit {0}
AreFrom at (w ∷ ws) = (at ≤ w.0) × AreFrom at ws

-- The file is safely a log of these payloads, and whatever is pending of it stands behind the gate of that log, which is closed.
-- What a read gives has these more payloads there, so they all count once that gate is open and one behind them is closed.
pub record IsAdding (place : AdditionPlace) (payloads more : List (List ℕ)) (disk : Disk) : Type 0 where
  pub shut : ℕ
  pub safe_rest : List ℕ
  pub rest : List ℕ
  pub writes : List (ℕ × ℕ)
  pub is_shut : shut ≢ 1
  pub file_is : disk place.file ≡ record {
    seen = Some (open_blocks payloads ++ shut ∷ (added more ++ rest));
    safe = Some (open_blocks payloads ++ shut ∷ safe_rest);
    writes = writes;
    removed = false;
  }
  pub behind : AreFrom (place.gate + 1) writes
  pub fit : AllByRecursion IsPayload payloads
  pub more_fit : AllByRecursion IsPayload more
  pub gate_is : place.gate ≡ length (open_blocks payloads)
  pub end_is : place.end ≡ place.gate + length (open_blocks more)

-- it is so of some payloads that the log has, and some that are added
abbrev pub IsUnderAddition : AdditionPlace → Disk → Type 0
IsUnderAddition place disk = (payloads : List (List ℕ)) × (more : List (List ℕ)) × IsAdding place payloads more disk

-- each other file is as it was
abbrev pub OthersStay : ℕ → Disk → Disk → Type 0
OthersStay file old new = (m : ℕ) → m ≢ file → new m ≡ old m

-- One payload more is added. After an Err the file is surely the log that it was, without any of them.
abbrev pub Adds : {T : Type 0} → AdditionPlace → AdditionPlace → List ℕ → Result T LogFault → Disk → Disk → Type 0
Adds place next payload (Ok x) old new =
    ((payloads more : List (List ℕ)) → IsAdding place payloads more old → IsAdding next payloads (more ++ payload ∷ []) new)
    × OthersStay place.file old new
Adds place next payload (Err e) old new =
    ((payloads more : List (List ℕ)) → IsAdding place payloads more old → Surely (new place.file) (IsLogFile payloads)) × OthersNarrow place.file old new

-- The last payload is added, and the gate is opened. Ok is the log with all of them, at rest.
-- After an Err it is surely the log with none of them or with all.
abbrev pub Finishes : {T : Type 0} → AdditionPlace → ℕ → List ℕ → Result T LogFault → Disk → Disk → Type 0
Finishes place end last (Ok x) old new =
    ((payloads more : List (List ℕ)) → IsAdding place payloads more old → IsAtRest place.file end (payloads ++ (more ++ last ∷ [])) new)
    × OthersSynced place.file old new
Finishes place end last (Err e) old new =
    ((payloads more : List (List ℕ)) → IsAdding place payloads more old → Surely (new place.file) (IsBeforeOrAfterAll payloads (more ++ last ∷ [])))
    × OthersNarrow place.file old new

-- the disk is these logs at rest, but for one to which these payloads are being added
pub record RestsAdding (logs : Logs) (place : AdditionPlace) (more : List (List ℕ)) (disk : Disk) : Type 0 where
  pub payloads : List (List ℕ)
  pub there : logs place.file ≡ Some payloads
  pub adding : IsAdding place payloads more disk
  pub beside : (m : ℕ) → m ≢ place.file → RestsAt m (logs m) disk
