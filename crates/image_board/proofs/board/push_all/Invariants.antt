use Rattle.std.proofs.Common.{◌≡◌, ◌++◌, vec_capacity}
use Rattle.image_board.proofs.board.push_all.Given as goal

abbrev pub invariant-loop-entry : goal.invariant-loop-entry
invariant-loop-entry l = record {
  items : l.entries.items ≡ l.initial.entries.items ++ l.yielded;
  room : vec_capacity l.entries ≡ vec_capacity l.initial.entries;
}
