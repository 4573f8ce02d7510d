use Rattle.std.proofs.Common.{◌<◌, ◌+◌, ℕ, get_or}
use Rattle.memory_folder.proofs.losses.reaches.Given as goal

abbrev pub invariant-loop-k : goal.invariant-loop-k
invariant-loop-k l = (j : ℕ) → j < l.k → (get_or l.writes j (0, 0)).0 + (get_or l.writes j (0, 0)).1 < l.len
