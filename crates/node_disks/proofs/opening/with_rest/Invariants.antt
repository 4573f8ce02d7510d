use Rattle.std.proofs.Common.{◌≡◌, ◌+◌, ◌≤◌, ◌++◌, vec_len, vec_capacity}
use Rattle.node_disks.proofs.opening.with_rest.Given as goal

abbrev pub invariant-loop-disk : goal.invariant-loop-disk
invariant-loop-disk g l = record {
  items : l.room.items ≡ l.fn.room.items ++ l.yielded;
  capacity : vec_len l.fn.left + vec_len l.fn.room ≤ vec_capacity l.room;
}
