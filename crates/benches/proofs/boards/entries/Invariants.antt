use Rattle.std.proofs.Common.{◌≡◌, length}
use Rattle.rdf_types.specs.Entries.{Rises}
use Rattle.benches.proofs.boards.entries.Given as goal

abbrev pub invariant-loop-pos : goal.invariant-loop-pos
invariant-loop-pos l = Rises 0 l.part.items l.pos × (length l.part.items ≡ l.pos)
