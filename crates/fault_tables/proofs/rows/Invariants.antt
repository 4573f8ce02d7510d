use Rattle.std.proofs.Common.{◌<◌, ◌↔◌, take, IfSome}
use Rattle.std.specs.List.{Contains}
use Rattle.fault_tables.specs.declared.Row.{Row}
use Rattle.fault_tables.proofs.rows.Given as goal

abbrev pub invariant-loop-step : goal.invariant-loop-step
invariant-loop-step l = (row : Row) → Contains l.table.items row ↔ (Contains (take l.step-index l.step-items) row.step × IfSome row.restart (λ stop. stop.calls < l.fn.restart_limit))
