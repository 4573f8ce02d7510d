-- What the removal of a file does to a disk, by its answer.
use Rattle.std.specs.Prelude.{◌≡◌, ◌⊎◌, ℕ, List, Option, None, Result, MatchResult}
use Rattle.rdf_disk.specs.Files.{Disk, settled}
use Rattle.rdf_disk.specs.Outcomes.{Durably, Surely, seen_of}
use Rattle.rdf_gatelog.specs.declared.fault.LogFault.{LogFault}
use Rattle.rdf_gatelog.specs.LogCalls.{OthersSynced, OthersNarrow}
use Rattle.rdf_gatelog.specs.Logs.{Logs, Reads, Rests, ReadsEither, with_log}

-- the file is gone, and of each other one what a read gives is safe
pub record Discarded (file : ℕ) (old new : Disk) : Type 0 where
  pub this : new file ≡ settled None
  pub others : OthersSynced file old new

-- the file is as it was or gone, if nothing of it was pending
pub record NotDiscarded (file : ℕ) (old new : Disk) : Type 0 where
  pub this : (x : Option (List ℕ)) → old file ≡ settled x → Surely (new file) (λ y. (y ≡ x) ⊎ (y ≡ None))
  pub others : OthersNarrow file old new

-- The removal of a file. Ok is that it is gone; after an Err it is as it was or gone.
abbrev pub Discards : ℕ → Result Unit LogFault → Disk → Disk → Type 0
Discards file result old new = MatchResult result (λ _. Discarded file old new) (λ e. NotDiscarded file old new)

-- whatever logs the disk rested as, it rests as these without that file
abbrev pub RestsWithout : ℕ → Disk → Disk → Type 0
RestsWithout file old new = (logs : Logs) → Rests logs old → Rests (with_log logs file None) new

-- whatever logs the disk read as, it reads as these without that file
abbrev pub ReadsWithout : ℕ → Disk → Disk → Type 0
ReadsWithout file old new = (logs : Logs) → Reads logs (seen_of old) → Reads (with_log logs file None) (seen_of new)

-- whatever logs the disk rested as, it durably reads as these, with that file or without it
abbrev pub KeepsOrLoses : ℕ → Disk → Disk → Type 0
KeepsOrLoses file old new = (logs : Logs) → Rests logs old → Durably new (ReadsEither logs (with_log logs file None))
