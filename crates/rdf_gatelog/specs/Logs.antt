-- A disk each of whose files is a log, as lists of payloads by file.
use Rattle.std.specs.Prelude.{◌≡◌, ◌≢◌, ◌⊎◌, ℕ, ◌==◌, if◌then◌else◌, List, [], ◌∷◌, ◌++◌, length, Option, Some, None}
use Rattle.rdf_disk.specs.Files.{Disk, Contents, settled}
use Rattle.rdf_disk.specs.Outcomes.{seen_of}
use Rattle.rdf_gatelog.specs.Log.{open_blocks, IsLogFile, IsAtRest}

-- by file, the payloads of its log, or None where there is no such file
abbrev pub Logs : Type 0
Logs = ℕ → Option (List (List ℕ))

-- a disk without files
abbrev pub no_logs : Logs
no_logs m = None

-- what a file has is this log, or there is no file
abbrev pub IsLogOf : Option (List (List ℕ)) → Option (List ℕ) → Type 0
IsLogOf None x = x ≡ None
IsLogOf (Some payloads) x = IsLogFile payloads x

-- the contents are these logs
abbrev pub Reads : Logs → Contents → Type 0
Reads logs c = (m : ℕ) → IsLogOf (logs m) (c m)

-- the file is this log as its last call left it, or isn't there; nothing of it is pending
abbrev pub RestsAt : ℕ → Option (List (List ℕ)) → Disk → Type 0
RestsAt m None disk = disk m ≡ settled None
RestsAt m (Some payloads) disk = IsAtRest m (length (open_blocks payloads)) payloads disk

-- the disk is these logs, each as its last call left it, and nothing is pending
abbrev pub Rests : Logs → Disk → Type 0
Rests logs disk = (m : ℕ) → RestsAt m (logs m) disk

-- nothing of the disk is pending
abbrev pub IsSettled : Disk → Type 0
IsSettled disk = (m : ℕ) → disk m ≡ settled (disk m).seen

-- the logs with another one in that file, or with none
abbrev pub with_log : Logs → ℕ → Option (List (List ℕ)) → Logs
with_log logs file x m = if m == file then x else logs m

-- the payloads of a log, none where there is no file
abbrev pub payloads_at : Option (List (List ℕ)) → List (List ℕ)
payloads_at None = []
payloads_at (Some payloads) = payloads

-- the logs with these payloads more in that file
abbrev pub pushed_all : Logs → ℕ → List (List ℕ) → Logs
pushed_all logs file more = with_log logs file (Some (payloads_at (logs file) ++ more))

-- the logs with one payload more in that file
abbrev pub pushed : Logs → ℕ → List ℕ → Logs
pushed logs file payload = with_log logs file (Some (payloads_at (logs file) ++ payload ∷ []))

-- the file is there, and its blocks end there
pub record IsOpenIn (logs : Logs) (file end : ℕ) : Type 0 where
  pub payloads : List (List ℕ)
  pub there : logs file ≡ Some payloads
  pub end_is : end ≡ length (open_blocks payloads)

-- the disk is these logs at rest, and one of them is open
abbrev pub RestsOpen : Logs → ℕ → ℕ → Disk → Type 0
RestsOpen logs file end disk = Rests logs disk × IsOpenIn logs file end

-- the contents are the one or the other
abbrev pub ReadsEither : Logs → Logs → Contents → Type 0
ReadsEither before after c = Reads before c ⊎ Reads after c

-- what either of the two reads as, the other does too
pub record SameLogs (c d : Contents) : Type 0 where
  pub logs : (logs : Logs) → Reads logs c → Reads logs d
  pub logs_back : (logs : Logs) → Reads logs d → Reads logs c

-- one log of a disk that reads as these logs was opened: these are its payloads, it rests, and the disk reads as before
pub record Opened (logs : Logs) (file end : ℕ) (payloads : List (List ℕ)) (old new : Disk) : Type 0 where
  pub payloads_are : logs file ≡ Some payloads
  pub open_at : IsOpenIn logs file end
  pub rests : RestsAt file (logs file) new
  pub beside : (m : ℕ) → m ≢ file → RestsAt m (logs m) old → RestsAt m (logs m) new
  pub absent : (m : ℕ) → logs m ≡ None → RestsAt m (logs m) new
  pub reads : Reads logs (seen_of new)
  pub settled : IsSettled new
