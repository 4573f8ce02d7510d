-- The faults of a node, as they are shown.
use Rattle.std.specs.Prelude.{ℕ, List, ◌++◌, codes, decimal}
use Rattle.node_faults.specs.declared.NodeFault.{NodeFault}
use Rattle.node_faults.specs.declared.NodeFault.TheVariants.{Stopped, Failed, NoMemory, Damaged}

-- which disk, and what of it
abbrev pub node_fault_text : NodeFault → List ℕ
node_fault_text (Stopped disk) = codes "stopped disk " ++ decimal disk
node_fault_text (Failed disk) = codes "device fault at disk " ++ decimal disk
node_fault_text NoMemory = codes "no memory"
node_fault_text (Damaged disk file at) = codes "damaged disk " ++ decimal disk ++ codes " file " ++ decimal file ++ codes " at " ++ decimal at
