use Rattle.std.proofs.Common.{◌≡◌, ◌+◌, ◌≤◌, length, map, ◌∷◌, vec_len, vec_capacity}
use Rattle.node_disks.proofs.opening.handed_back.Given as goal

abbrev pub invariant-loop-one : goal.invariant-loop-one
invariant-loop-one g l = record {
  items : l.room.items ≡ l.fn.first ∷ map g.O.Opener.disk_of l.yielded;
  few : vec_len l.room ≡ length l.yielded + 1;
  capacity : length l.fn.opening.opened.items + length l.fn.opening.left.items + 1 ≤ vec_capacity l.room;
}
