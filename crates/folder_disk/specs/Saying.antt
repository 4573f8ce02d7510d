-- The faults of a folder, as they are shown.
use Rattle.std.specs.Prelude.{ℕ, List, codes}
use Rattle.folder_disk.specs.declared.fault.FolderFault.{FolderFault}
use Rattle.folder_disk.specs.declared.fault.FolderFault.TheVariants.{NotFound, Interrupted, Refused, Failed, NoMemory}

-- what the system answers
abbrev pub folder_fault_text : FolderFault → List ℕ
folder_fault_text NotFound = codes "not found"
folder_fault_text Interrupted = codes "interrupted"
folder_fault_text Refused = codes "sync refused"
folder_fault_text Failed = codes "failed"
folder_fault_text NoMemory = codes "no memory"
