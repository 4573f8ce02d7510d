use Rattle.std.proofs.Common.{◌<◌, ◌↔◌}
use Rattle.std.specs.List.{Contains}
use Rattle.fault_tables.specs.declared.Stop.{Stop}
use Rattle.fault_tables.proofs.stops.Given as goal

abbrev pub invariant-loop-calls : goal.invariant-loop-calls
invariant-loop-calls l = (stop : Stop) → Contains l.table.items stop ↔ (stop.calls < l.calls)
