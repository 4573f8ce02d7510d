use Rattle.std.proofs.Common.{◌≡◌, ◌<◌, ℕ, reverse, slice_index}
use Rattle.rdf_disk.specs.Outcomes.{IsOutside}
use Rattle.memory_folder.proofs.losses.is_same.Given as goal

abbrev pub invariant-loop-i : goal.invariant-loop-i
invariant-loop-i l = (j : ℕ) → j < l.i → IsOutside (reverse l.writes) j → slice_index l.bytes j ≡ slice_index l.safe j
