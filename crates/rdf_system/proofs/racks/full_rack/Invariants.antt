use Rattle.std.proofs.Common.{◌≡◌, ℕ, Ok, Some, length, slice_get}
use Rattle.rdf_system.proofs.racks.full_rack.Given as goal

abbrev pub invariant-loop-number : goal.invariant-loop-number
invariant-loop-number g l = record {
  many : length l.disks.items ≡ l.number;
  made : (i : ℕ) (d : g.row.D.Denot) → slice_get l.disks.items i ≡ Some d → goal.F-post g l.fn.disk l.fn.node i (Ok d);
}
