use Rattle.std.proofs.Common.{◌≡◌, ◌+◌, ◌≤◌, ◌++◌, length, vec_capacity}
use Rattle.rdf_system.proofs.site.with_rest.Given as goal

abbrev pub invariant-loop-disk : goal.invariant-loop-disk
invariant-loop-disk g l = record {
  items : l.room.items ≡ l.fn.room.items ++ l.yielded;
  capacity : length l.fn.rest.items + length l.fn.room.items ≤ vec_capacity l.room;
}
