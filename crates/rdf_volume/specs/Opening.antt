-- What opening a volume finds, and leaves.
use Rattle.std.specs.Prelude.{◌≡◌, ◌⊎◌, ◌<◌, ◌≤◌, ℕ, ◌+◌, ◌-◌, false, List, length}
use Rattle.std.specs.Option.{option_map}
use Rattle.rdf_disk.specs.Files.{Disk, Contents, IsSpan}
use Rattle.rdf_gatelog.specs.Log.{IsLogFile, IsAtRest, open_blocks}
use Rattle.rdf_gatelog.specs.LogCalls.{Mounted, OthersSynced, SameLog, gated}
use Rattle.rdf_gatelog.specs.LogReading.{IsReading}
use Rattle.rdf_model.specs.Volumes.{Rows}
use Rattle.rdf_gatelog.specs.Removal.{Discarded}
use Rattle.rdf_gatelog.specs.Logs.{IsSettled}
use Rattle.rdf_volume.specs.declared.mount.Sight.{Sight}
use Rattle.rdf_volume.specs.declared.mount.Sight.TheVariants as sight
use Rattle.rdf_volume.specs.declared.mount.Looking.{Looking}
use Rattle.rdf_volume.specs.declared.mount.LookStep.{LookStep}
use Rattle.rdf_volume.specs.declared.mount.LookStep.TheVariants as step
use Rattle.rdf_volume.specs.declared.mount.Whole.{Whole}
use Rattle.rdf_volume.specs.declared.reading.Reading.{Reading}
use Rattle.rdf_volume.specs.declared.table.RowTable.{RowTable}
use Rattle.rdf_volume.specs.Flaws.{IsFirstMisplaced}
use Rattle.rdf_volume.specs.InUse.{IsTabled, counted}
use Rattle.rdf_volume.specs.Readings.{IsRead}
use Rattle.rdf_volume.specs.Stages.{stage_of, is_complete}
use Rattle.rdf_volume.specs.Standing.{StandsBy}

-- the blocks with these payloads are read, or the first of them that isn't in its place stands there
abbrev pub IsSeen : Sight → List (List ℕ) → Type 0
IsSeen (sight.Says reading) payloads = IsRead reading payloads
IsSeen (sight.Misplaced at) payloads = IsFirstMisplaced payloads at

-- the blocks that the reader gave have these payloads
pub record IsLooking (looking : Looking) (given : List (List ℕ)) (disk : Disk) : Type 0 where
  pub reading : IsReading looking.reader given disk
  pub seen : IsSeen looking.sight given
  pub at_is : looking.at ≡ length (open_blocks given)

-- behind the blocks that were given another one was read, or they are all, and the log is at rest
abbrev pub LooksOn : List (List ℕ) → LookStep → Disk → Type 0
LooksOn given (step.Goes looking) disk = (further : List (List ℕ)) × IsLooking looking further disk
LooksOn given (step.Ends log seen) disk = IsAtRest log.file log.end given disk × IsSeen seen given

-- the file that is read
abbrev pub file_in : LookStep → ℕ
file_in (step.Goes looking) = looking.reader.file
file_in (step.Ends log seen) = log.file

-- a file was opened for reading, and nothing was changed since: it is the log that it was
pub record IsOpened (file : ℕ) (old new : Disk) : Type 0 where
  pub bytes : (new file).seen ≡ option_map gated (old file).seen
  pub same : SameLog (old file).seen (new file).seen
  pub others : OthersSynced file old new

-- the file was mounted, and its blocks are read
pub record IsLook (file end : ℕ) (reading : Reading) (old new : Disk) : Type 0 where
  pub payloads : List (List ℕ)
  pub mounted : Mounted file end payloads old new
  pub read : IsRead reading payloads

-- the newest file has no complete base, and nothing of the disk is pending
pub record IsUnfinished (disk : Disk) (low newest : ℕ) : Type 0 where
  pub settled : IsSettled disk
  pub span : IsSpan disk low (newest + 1)
  pub stage : (payloads : List (List ℕ)) → IsLogFile payloads (disk newest).seen → is_complete (stage_of payloads) ≡ false

-- what was taken may be used, and is what the disk stood for
pub record IsTaken (disk : Disk) (taken end : ℕ) (table : RowTable) (restart count : ℕ) (file batches : ℕ) (stood : Rows) (point : ℕ) : Type 0 where
  pub tabled : IsTabled disk taken end table restart (counted count)
  pub file_is : taken ≡ file
  pub rows_are : table.shown.rows ≡ stood
  pub restart_is : restart ≡ point
  pub batches_are : count ≡ batches

-- whatever the contents stood for, this file is taken for it
abbrev pub Takes : Contents → Disk → Whole → Type 0
Takes stood disk whole = (file batches : ℕ) (rows : Rows) (restart : ℕ) → StandsBy file batches rows restart stood
    → IsTaken disk whole.log.file whole.log.end whole.read.table whole.read.restart whole.read.batches file batches rows restart

-- the file before the newest one is gone, where there may be one
abbrev pub DropsBefore : ℕ → ℕ → Disk → Disk → Type 0
DropsBefore low newest old new = ((low < newest) × Discarded (newest - 1) old new) ⊎ ((newest ≤ low) × (new ≡ old))
