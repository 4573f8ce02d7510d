use Rattle.std.proofs.Common.{◌≡◌, ◌≤◌, length, take}
use Rattle.image_board.specs.Entries.{own}
use Rattle.image_board.proofs.pieces.next_images.Given as goal

abbrev pub invariant-loop-i : goal.invariant-loop-i
invariant-loop-i l = record {
  images : l.images.items ≡ own l.vol (take l.i l.entries);
  few : length l.images.items ≤ l.most;
}
