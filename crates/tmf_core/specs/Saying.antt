-- The faults of transactions, as they are shown.
use Rattle.std.specs.Prelude.{ℕ, List, ◌++◌, codes, decimal}
use Rattle.node_faults.specs.Saying.{node_fault_text}
use Rattle.tmf_core.specs.declared.fault.TmfFault.{TmfFault}
use Rattle.tmf_core.specs.declared.fault.TmfFault.TheVariants.{Down, TxnUsed, NoTxn, NoVolume, Locked, Exists, Missing, Node}

-- the word of a refusal, as a plan's reply has it behind `no`, or the fault of the node
abbrev pub tmf_fault_text : TmfFault → List ℕ
tmf_fault_text Down = codes "down"
tmf_fault_text TxnUsed = codes "used"
tmf_fault_text NoTxn = codes "txn"
tmf_fault_text NoVolume = codes "volume"
tmf_fault_text (Locked by) = codes "locked " ++ decimal by
tmf_fault_text Exists = codes "exists"
tmf_fault_text Missing = codes "missing"
tmf_fault_text (Node node) = node_fault_text node
