-- The faults of answering, as they are shown.
use Rattle.std.specs.Prelude.{ℕ, List, codes}
use Rattle.rdf_monitor.specs.declared.fault.AnswerFault.{AnswerFault}
use Rattle.rdf_monitor.specs.declared.fault.AnswerFault.TheVariants.{Write, NoMemory}

-- why a reply was not written
abbrev pub answer_fault_text : AnswerFault → List ℕ
answer_fault_text Write = codes "cannot write"
answer_fault_text NoMemory = codes "no memory"
