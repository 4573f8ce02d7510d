-- What a reader of plans answers, and plans of lines that need no disks.
use Rattle.std.specs.Prelude.{◌≡◌, Bool, true, false, List, Result, Ok, Err}
use Rattle.std.specs.List.{AllByRecursion}
use Rattle.std.specs.Result.{is_ok}
use Rattle.plan_lang.specs.declared.lines.Line.{Line}
use Rattle.plan_lang.specs.declared.lines.Line.TheVariants as line
use Rattle.plan_lang.specs.declared.plan_fault.PlanFault.{PlanFault}
use Rattle.plan_lang.specs.declared.plan_fault.PlanFault.TheVariants.{Bad, NoMemory}
use Rattle.plan_lang.specs.declared.why.BadLine.{BadLine}

-- what a function answered, seen by view, is what reading gives; it may want memory only in place of a value
abbrev pub Makes : {X Y : Type 0} → (X → Y) → Result X PlanFault → Result Y BadLine → Type 0
Makes view (Ok x) read = read ≡ Ok (view x)
Makes view (Err (Bad n why)) read = read ≡ Err (record { line = n; why = why })
Makes view (Err NoMemory) read = is_ok read ≡ true

-- the line gives a disk a fuse
abbrev pub is_fuse : Line → Bool
is_fuse (line.Fuse node disk calls tear) = true
is_fuse _ = false

-- no line gives a disk a fuse
abbrev pub HaveNoFuse : List Line → Type 0
HaveNoFuse lines = AllByRecursion (λ l. is_fuse l ≡ false) lines
