use Rattle.std.proofs.Common.{◌≡◌, ◌++◌, take}
use Rattle.std.specs.List.{All, flat_map}
use Rattle.rdf_codec.specs.Spelling.{row_spelling, IsRow}
use Rattle.rdf_codec.proofs.volume_blocks.put_each_row.Given as goal

abbrev pub invariant-loop-row : goal.invariant-loop-row
invariant-loop-row l = record {
  written : l.out.items ≡ l.initial.out.items ++ flat_map row_spelling (take l.row-index l.rows);
  within : All IsRow (take l.row-index l.rows);
}
