use Rattle.std.proofs.Common.{[], refl}
use Rattle.keyed_blocks.specs.Bases.{nothing_yet}
use Rattle.rdf_volume.proofs.reading.nothing_read.Goals as goal

pub returns : goal.returns
returns c = record {
  so_far = nothing_yet;
  stage = refl;
  shown = c.none.ensures;
  entries = c.new.ensures.items;
  listed = refl;
  rows = refl;
  last = refl;
  risen = refl;
  indexes = record { blocks = []; behind = []; payloads_are = refl; base = refl };
}
