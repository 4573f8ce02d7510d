use Rattle.std.proofs.Common.{◌+◌, ◌≤◌, reverse, vec_len, vec_capacity}
use Rattle.rdf_disk.proofs.MemoryLoops.{IsTaking}
use Rattle.rdf_disk.proofs.memory_held.Held.take_all_back.Given as goal

abbrev pub invariant-loop-newest : goal.invariant-loop-newest
invariant-loop-newest l = record {
  taking : IsTaking (reverse l.fn.undo.items) l.fn.self.bytes.items l.fn.self.len (reverse l.undo.items) l.redo.items l.self.bytes.items l.self.len;
  room : vec_len l.redo + vec_len l.undo ≤ vec_capacity l.redo;
}

abbrev pub decreases-loop-newest : goal.decreases-loop-newest
decreases-loop-newest l = goal.left-loop-newest l
