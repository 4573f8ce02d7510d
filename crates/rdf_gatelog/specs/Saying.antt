-- The faults of a log, as they are shown.
use Rattle.std.specs.Prelude.{ℕ, List, ◌++◌, codes, decimal}
use Rattle.rdf_gatelog.specs.declared.fault.LogFault.{LogFault}
use Rattle.rdf_gatelog.specs.declared.fault.LogFault.TheVariants.{Stopped, Failed, NoMemory, Damaged}

-- why a call did nothing, or only a part
abbrev pub log_fault_text : LogFault → List ℕ
log_fault_text Stopped = codes "stopped"
log_fault_text Failed = codes "device fault"
log_fault_text NoMemory = codes "no memory"
log_fault_text (Damaged file at) = codes "damaged file " ++ decimal file ++ codes " at " ++ decimal at
