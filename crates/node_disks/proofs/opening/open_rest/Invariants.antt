use Rattle.std.proofs.Common.{◌≡◌, ◌≤◌, ◌++◌, length, vec_capacity}
use Rattle.node_disks.specs.Opening.{AreOpened}
use Rattle.node_disks.proofs.opening.open_rest.Given as goal

abbrev pub invariant-loop-disk : goal.invariant-loop-disk
invariant-loop-disk g l = record {
  opens : AreOpened (g.O.Opener.opens l.fn.opener) (g.O.Opener.fails l.fn.opener) 0 l.yielded l.opening.opened.items l.opening.left.items l.opening.fault;
  ahead : l.fn.disks.items ≡ l.yielded ++ l.disk-iterator.rest.items;
  room : length l.fn.disks.items ≤ vec_capacity l.opening.opened;
  more_room : length l.fn.disks.items ≤ vec_capacity l.opening.left;
}
