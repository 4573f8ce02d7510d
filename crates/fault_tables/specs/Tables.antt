-- What the rows of a table are.
use Rattle.std.specs.Prelude.{ℕ, ◌<◌, List, ◌∷◌, map, Some, None, IfSome}
use Rattle.fault_tables.specs.declared.Row.{Row}
use Rattle.fault_tables.specs.declared.Stop.{Stop}

-- the step stops after fewer than so many calls, and the restart, if it stops, after fewer than so many of its own
abbrev pub IsWithin : ℕ → ℕ → Row → Type 0
IsWithin step_limit restart_limit row = (row.step.calls < step_limit) × IfSome row.restart (λ stop. stop.calls < restart_limit)

-- the rows of one stop in the step: alone, and with each of these stops in the restart
abbrev pub rows_of : Stop → List Stop → List Row
rows_of step again = record { step = step; restart = None } ∷ map (λ stop. record { step = step; restart = Some stop }) again
