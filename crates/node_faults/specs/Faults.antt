-- What a node's fault says of each of its disks.
use Rattle.std.specs.Prelude.{◌≡◌, ℕ, suc, ◌<◌, Bool, true, false, ◌==◌, if◌then◌else◌, Result, Ok, Err, IfErr}
use Rattle.rdf_disk.specs.Counts.{Ending}
use Rattle.rdf_disk.specs.Counts.Ending.{Fine, Stop, Fault}
use Rattle.rdf_gatelog.specs.declared.fault.LogFault.{LogFault}
use Rattle.rdf_gatelog.specs.declared.fault.LogFault.TheVariants as log
use Rattle.node_faults.specs.declared.NodeFault.{NodeFault}
use Rattle.node_faults.specs.declared.NodeFault.TheVariants.{Stopped, Failed, NoMemory, Damaged}

-- a fault of the disk, as the node's
abbrev pub fault_at : ℕ → LogFault → NodeFault
fault_at disk log.Stopped = Stopped disk
fault_at disk log.Failed = Failed disk
fault_at disk log.NoMemory = NoMemory
fault_at disk (log.Damaged file at) = Damaged disk file at

-- how a call with this fault ended for the disk, as far as its counts go
abbrev pub ending_at : ℕ → NodeFault → Ending
ending_at disk (Stopped d) = if d == disk then Stop else Fine
ending_at disk (Failed d) = if d == disk then Fault else Fine
ending_at disk NoMemory = Fine
ending_at disk (Damaged d file at) = Fine

-- how a call with this answer ended for the disk
abbrev pub ending_for : {T : Type 0} → ℕ → Result T NodeFault → Ending
ending_for disk (Ok x) = Fine
ending_for disk (Err fault) = ending_at disk fault

-- the disk that the fault is of is one of so many
abbrev pub IsNamed : ℕ → NodeFault → Type 0
IsNamed many (Stopped d) = d < many
IsNamed many (Failed d) = d < many
IsNamed many NoMemory = Unit {0}
IsNamed many (Damaged d file at) = d < many

-- a fault of a disk, damage too, is of disk 0 or of one of so many volumes
abbrev pub NamesOwn : {T : Type 0} → ℕ → Result T NodeFault → Type 0
NamesOwn volumes result = IfErr result (λ why. IsNamed (suc volumes) why)

-- the fault tells of damage
abbrev pub is_damage : NodeFault → Bool
is_damage (Stopped d) = false
is_damage (Failed d) = false
is_damage NoMemory = false
is_damage (Damaged d file at) = true

-- the answer tells of no damage
abbrev pub IsSound : {T : Type 0} → Result T NodeFault → Type 0
IsSound (Ok x) = Unit {0}
IsSound (Err fault) = is_damage fault ≡ false
