use Rattle.std.proofs.Common.{◌≡◌, fold, take}
use Rattle.rdf_volume.specs.Changes.{with_row}
use Rattle.rdf_volume.proofs.reading.show.Given as goal

abbrev pub invariant-loop-row : goal.invariant-loop-row
invariant-loop-row l = l.shown.rows ≡ fold with_row l.initial.shown.rows (take l.row-index l.rows)
