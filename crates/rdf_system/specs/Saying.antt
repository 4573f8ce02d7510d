-- The faults of a system, as they are shown.
use Rattle.std.specs.Prelude.{ℕ, List, ◌++◌, codes, decimal}
use Rattle.rdf_types.specs.declared.records.Node.{Node}
use Rattle.rdf_types.specs.Saying.{node_text}
use Rattle.node_faults.specs.Saying.{node_fault_text}
use Rattle.rdf_system.specs.declared.fault.StartFault.{StartFault}
use Rattle.rdf_system.specs.declared.fault.StartFault.TheVariants.{NotBlank, Stopped, Failed, NoMemory}
use Rattle.rdf_system.specs.declared.fault.StepFault.{StepFault}

-- a disk of a node
abbrev pub disk_text : Node → ℕ → List ℕ
disk_text node disk = node_text node ++ codes " disk " ++ decimal disk

-- why the racks can't be used
abbrev pub start_fault_text : StartFault → List ℕ
start_fault_text (NotBlank node disk) = codes "not blank " ++ disk_text node disk
start_fault_text (Stopped node disk) = codes "stopped " ++ disk_text node disk
start_fault_text (Failed node disk) = codes "device fault at " ++ disk_text node disk
start_fault_text NoMemory = codes "no memory"

-- why a line was not answered
abbrev pub step_fault_text : StepFault → List ℕ
step_fault_text step = node_text step.node ++ codes ": " ++ node_fault_text step.fault
