use Rattle.std.proofs.Common.{◌≡◌, take}
use Rattle.rdf_model.specs.Volumes.{Rows}
use Rattle.keyed_overlay.specs.Overlays.{overlaid}
use Rattle.rdf_volume.specs.Changes.{changed}
use Rattle.rdf_volume.proofs.table.RowTable.set_all.Given as goal

abbrev pub invariant-loop-change : goal.invariant-loop-change
invariant-loop-change l = record {
  shown : l.self.shown.rows ≡ changed l.fn.self.shown.rows (take l.change-index l.batch);
  index : l.self.index ≡ l.fn.self.index;
  blocks : l.self.blocks ≡ l.fn.self.blocks;
  overlay : (base : Rows) → overlaid base l.self.overlay ≡ changed (overlaid base l.fn.self.overlay) (take l.change-index l.batch);
}
