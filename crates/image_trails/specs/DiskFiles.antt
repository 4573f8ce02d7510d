-- The logs of a disk's files in memory.
use Rattle.std.specs.Prelude.{◌≡◌, ◌≢◌, ◌⊎◌, ℕ, ◌-◌, ◌<◌, ◌≤◌, nat_lt, if◌then◌else◌, List, get_or, Option, Some, None, Result, Err}
use Rattle.rdf_disk.specs.Files.{Disk}
use Rattle.rdf_disk.specs.Outcomes.{seen_of}
use Rattle.rdf_gatelog.specs.declared.fault.LogFault.{LogFault}
use Rattle.rdf_gatelog.specs.declared.fault.LogFault.TheVariants.{Damaged}
use Rattle.rdf_gatelog.specs.Log.{payloads_of, IsDamaged}
use Rattle.rdf_gatelog.specs.Logs.{Logs, IsLogOf, Reads, RestsAt, Rests}
use Rattle.image_trails.specs.declared.file_log.FileLog.{FileLog}
use Rattle.image_trails.specs.declared.file_log.DiskFiles.{DiskFiles}

-- the payloads of a file
abbrev pub payloads_in : Option FileLog → Option (List (List ℕ))
payloads_in None = None
payloads_in (Some log) = Some (payloads_of log.payloads)

abbrev pub no_file : Option FileLog
no_file = None

-- the logs of the files from that number on
abbrev pub logs_in : ℕ → List (Option FileLog) → Logs
logs_in base files m = if nat_lt m base then None else payloads_in (get_or files (m - base) no_file)

abbrev pub logs_of : DiskFiles → Logs
logs_of files = logs_in files.base files.logs.items

-- there is none but between these numbers
abbrev pub NoneOutside : ℕ → ℕ → Logs → Type 0
NoneOutside base above logs = (m : ℕ) → (m < base) ⊎ (above ≤ m) → logs m ≡ None

-- the disk showed these logs, which lie between these numbers, and now rests as them
pub record AreLogs (base above : ℕ) (old new : Disk) (logs : Logs) : Type 0 where
  pub rests : Rests logs new
  pub reads : Reads logs (seen_of old)
  pub within : NoneOutside base above logs

-- where the answer tells damage, that file of the disk is there, and is damaged there
abbrev pub TellsDamage : {T : Type 0} → Disk → Result T LogFault → Type 0
TellsDamage disk result = (f at : ℕ) → result ≡ Err (Damaged f at) → ((disk f).seen ≢ None) × IsDamaged (disk f).seen at

-- the file is a log of these payloads, or isn't there; it rests afterwards, and each other file is as it was
pub record IsOpened (file : ℕ) (x : Option (List (List ℕ))) (old new : Disk) : Type 0 where
  pub reads : IsLogOf x (old file).seen
  pub rests : RestsAt file x new
  pub others : (m : ℕ) → m ≢ file → new m ≡ old m
