-- What the answer of a call of a log says of the counts of its disk.
use Rattle.std.specs.Prelude.{◌≡◌, ℕ, Result, Ok, Err}
use Rattle.rdf_disk.specs.Counts.{Ending}
use Rattle.rdf_disk.specs.Counts.Ending.{Fine, Stop, Fault}
use Rattle.rdf_disk.specs.declared.fault.DiskFault.{DiskFault}
use Rattle.rdf_disk.specs.declared.fault.DiskFault.TheVariants as disk
use Rattle.rdf_gatelog.specs.declared.fault.LogFault.{LogFault}
use Rattle.rdf_gatelog.specs.declared.fault.LogFault.TheVariants.{Stopped, Failed, NoMemory, Damaged}

-- a disk's fault as a log's
abbrev pub log_fault : DiskFault → LogFault
log_fault disk.Stopped = Stopped
log_fault disk.Failed = Failed
log_fault disk.NoMemory = NoMemory

-- how a call with this fault ended, as far as the counts go
abbrev pub ending_of_fault : LogFault → Ending
ending_of_fault Stopped = Stop
ending_of_fault Failed = Fault
ending_of_fault NoMemory = Fine
ending_of_fault (Damaged file at) = Fine

-- how a call with this answer ended
abbrev pub ending : {T : Type 0} → Result T LogFault → Ending
ending (Ok x) = Fine
ending (Err e) = ending_of_fault e

-- the answer isn't that a file is damaged
abbrev pub NotDamaged : {T : Type 0} → Result T LogFault → Type 0
NotDamaged r = (file at : ℕ) → r ≡ Err (Damaged file at) → ⊥
