-- The faults of storing, as they are shown.
use Rattle.std.specs.Prelude.{ℕ, List, ◌++◌, codes, decimal}
use Rattle.rdf_gatelog.specs.Saying.{log_fault_text}
use Rattle.receiver.specs.declared.ReceiveFault.{ReceiveFault}
use Rattle.receiver.specs.declared.ReceiveFault.TheVariants.{Gap, Log}

-- why a shipment wasn't stored
abbrev pub receive_fault_text : ReceiveFault → List ℕ
receive_fault_text (Gap received) = codes "gap " ++ decimal received
receive_fault_text (Log log) = log_fault_text log
