use Rattle.std.proofs.Common.{◌≡◌, length, take, drop}
use Rattle.std.specs.Cmp.Lexicographic.{pointwise}
use Rattle.keyed_blocks.specs.Bases.{same_entry}
use Rattle.rdf_volume.proofs.reading.begins_with.Given as goal

abbrev pub invariant-loop-i : goal.invariant-loop-i
invariant-loop-i l =
    pointwise same_entry (drop l.i l.entries) (take (length (drop l.i l.entries)) (drop l.i l.list)) ≡ pointwise same_entry l.entries (take (length l.entries) l.list)
