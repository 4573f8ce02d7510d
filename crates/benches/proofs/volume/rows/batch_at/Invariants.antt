use Rattle.std.proofs.Common.{◌≡◌, ◌+◌, ◌≤◌, length}
use Rattle.benches.proofs.volume.rows.batch_at.Given as goal

abbrev pub invariant-loop-place : goal.invariant-loop-place
invariant-loop-place l = (length l.batch.items + l.fn.first ≡ l.place) × (l.place ≤ l.fn.first + 64)
