use Rattle.std.proofs.Common.{◌≡◌, ◌++◌}
use Rattle.keyed_overlay.specs.Merging.{passed, behind}
use Rattle.keyed_overlay.proofs.merge.Merge.pass.Given as goal

abbrev pub invariant-loop-row : goal.invariant-loop-row
invariant-loop-row l = record {
  laid : l.self.laid ≡ l.fn.self.laid;
  rows : l.rows.items ++ passed l.fn.self.laid l.self.to_come l.row-iterator.rest.items ≡ passed l.fn.self.laid l.fn.self.to_come l.fn.block.items;
  to_come : behind l.self.to_come l.row-iterator.rest.items ≡ behind l.fn.self.to_come l.fn.block.items;
}
