use Rattle.std.proofs.Common.{◌≡◌, ◌≤◌, length, take}
use Rattle.rdf_codec.specs.VolumeBlocks.{rows_spelling}
use Rattle.rdf_codec.proofs.volume_blocks.rows_in_block.Given as goal

abbrev pub invariant-loop-at : goal.invariant-loop-at
invariant-loop-at l = record {
  counted : l.size ≡ length (rows_spelling (take l.at l.rows));
  room : l.size ≤ 4096;
}
