use Rattle.std.proofs.Common.{◌≡◌, ◌≤◌, filter_map, length, map, take}
use Rattle.rdf_volume.specs.Changes.{change_by}
use Rattle.rdf_volume.proofs.images.changes_by.Given as goal

abbrev pub invariant-loop-entry : goal.invariant-loop-entry
invariant-loop-entry g l = record {
  changes : l.changes.items ≡ filter_map change_by (map g.E.Entry.holds (take l.entry-index l.entries));
  few : length l.changes.items ≤ l.entry-index;
}
