use Rattle.std.proofs.Common.{◌≡◌, ◌+◌, ◌≤◌, length, vec_capacity}
use Rattle.rdf_system.proofs.site.together.Given as goal

abbrev pub invariant-loop-disk : goal.invariant-loop-disk
invariant-loop-disk g l = record {
  items : l.room.items ≡ l.yielded;
  capacity : length l.fn.first.items + length l.fn.rest.items ≤ vec_capacity l.room;
}
