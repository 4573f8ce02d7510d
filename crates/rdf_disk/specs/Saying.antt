-- The faults of a disk, as they are shown.
use Rattle.std.specs.Prelude.{ℕ, List, codes}
use Rattle.rdf_disk.specs.declared.fault.DiskFault.{DiskFault}
use Rattle.rdf_disk.specs.declared.fault.DiskFault.TheVariants.{Stopped, Failed, NoMemory}

-- how a call ended without its answer
abbrev pub disk_fault_text : DiskFault → List ℕ
disk_fault_text Stopped = codes "stopped"
disk_fault_text Failed = codes "device fault"
disk_fault_text NoMemory = codes "no memory"
