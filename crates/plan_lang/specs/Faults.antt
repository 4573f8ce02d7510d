-- The faults of lines, as an operator is told of them.
use Rattle.std.specs.Prelude.{ℕ, List, ◌++◌, codes, decimal}
use Rattle.plan_lang.specs.declared.why.PlanWhy.{PlanWhy}
use Rattle.plan_lang.specs.declared.why.PlanWhy.TheVariants.{NotAscii, Header, Word, Count, Name, Number, TooManyLines, SessionOpen, NotInSession}
use Rattle.plan_lang.specs.declared.plan_fault.PlanFault.{PlanFault}
use Rattle.plan_lang.specs.declared.plan_fault.PlanFault.TheVariants.{Bad, NoMemory}

-- the name of a fault
abbrev pub why_name : PlanWhy → List ℕ
why_name NotAscii = codes "NotAscii"
why_name Header = codes "Header"
why_name Word = codes "Word"
why_name Count = codes "Count"
why_name Name = codes "Name"
why_name Number = codes "Number"
why_name TooManyLines = codes "TooManyLines"
why_name SessionOpen = codes "SessionOpen"
why_name NotInSession = codes "NotInSession"

-- why bytes are read as no plan, as it is shown
abbrev pub plan_fault_text : PlanFault → List ℕ
plan_fault_text (Bad line why) = codes "line " ++ decimal line ++ codes ": " ++ why_name why
plan_fault_text NoMemory = codes "no memory"
