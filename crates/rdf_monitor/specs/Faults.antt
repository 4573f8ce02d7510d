-- What a reply that was not written says of the sink.
use Rattle.std.specs.Prelude.{◌≡◌, ℕ, Result, Ok, Err}
use Rattle.rdf_ports.specs.Counts.{Faulted}
use Rattle.rdf_monitor.specs.declared.fault.AnswerFault.{AnswerFault}
use Rattle.rdf_monitor.specs.declared.fault.AnswerFault.TheVariants.{Write, NoMemory}

-- the count of the sink's faults rose exactly where the sink failed
abbrev pub CountsAnswer : {T : Type 0} → Result T AnswerFault → ℕ → ℕ → Type 0
CountsAnswer (Ok x) old new = new ≡ old
CountsAnswer (Err Write) old new = Faulted old new
CountsAnswer (Err NoMemory) old new = new ≡ old
