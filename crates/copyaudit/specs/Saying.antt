-- The faults of copying, as they are shown.
use Rattle.std.specs.Prelude.{ℕ, List, ◌++◌, codes, decimal}
use Rattle.rdf_gatelog.specs.Saying.{log_fault_text}
use Rattle.copyaudit.specs.declared.CopyFault.{CopyFault}
use Rattle.copyaudit.specs.declared.CopyFault.TheVariants.{Purged, Log}

-- why audit was not copied
abbrev pub copy_fault_text : CopyFault → List ℕ
copy_fault_text (Purged first) = codes "purged " ++ decimal first
copy_fault_text (Log log) = log_fault_text log
