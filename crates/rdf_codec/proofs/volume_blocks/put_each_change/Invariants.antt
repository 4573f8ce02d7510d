use Rattle.std.proofs.Common.{◌≡◌, ◌++◌, take}
use Rattle.std.specs.List.{All, flat_map}
use Rattle.rdf_codec.specs.Spelling.{change_spelling, IsChange}
use Rattle.rdf_codec.proofs.volume_blocks.put_each_change.Given as goal

abbrev pub invariant-loop-change : goal.invariant-loop-change
invariant-loop-change l = record {
  written : l.out.items ≡ l.initial.out.items ++ flat_map change_spelling (take l.change-index l.changes);
  within : All IsChange (take l.change-index l.changes);
}
