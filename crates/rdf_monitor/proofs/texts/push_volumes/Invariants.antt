use Rattle.std.proofs.Common.{◌≡◌, ◌++◌, take}
use Rattle.std.specs.List.{flat_map, enumerate_from}
use Rattle.rdf_core.specs.Text.{volume_line}
use Rattle.rdf_monitor.proofs.texts.push_volumes.Given as goal

abbrev pub invariant-loop-number : goal.invariant-loop-number
invariant-loop-number l = l.lines.items ≡ l.fn.lines.items ++ flat_map volume_line (enumerate_from 0 (take l.number l.volumes))
