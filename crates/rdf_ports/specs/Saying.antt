-- The faults of sources and sinks, as they are shown.
use Rattle.std.specs.Prelude.{ℕ, List, codes}
use Rattle.rdf_ports.specs.declared.whole.ReadAllFault.{ReadAllFault}
use Rattle.rdf_ports.specs.declared.whole.ReadAllFault.TheVariants.{Failed as ReadFailed, TooLong, NoMemory}

-- a read or a write that failed
abbrev pub failed_text : List ℕ
failed_text = codes "failed"

-- why a source was not read to its end
abbrev pub read_all_fault_text : ReadAllFault → List ℕ
read_all_fault_text ReadFailed = codes "cannot read"
read_all_fault_text TooLong = codes "too long"
read_all_fault_text NoMemory = codes "no memory"
