use Rattle.std.proofs.Common.{◌≡◌, ◌≤◌, length, map, take}
use Rattle.rdf_volume.specs.Changes.{changes_on}
use Rattle.rdf_volume.proofs.images.next_batch.Given as goal

abbrev pub invariant-loop-i : goal.invariant-loop-i
invariant-loop-i g l = record {
  changes : l.batch.items ≡ changes_on l.vol (map g.E.Entry.holds (take l.i l.entries));
  few : length l.batch.items ≤ 64;
}
