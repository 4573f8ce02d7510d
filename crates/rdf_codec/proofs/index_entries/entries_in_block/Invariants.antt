use Rattle.std.proofs.Common.{◌≡◌, ◌≤◌, length, take}
use Rattle.rdf_codec.specs.VolumeBlocks.{index_spelling}
use Rattle.rdf_codec.proofs.index_entries.entries_in_block.Given as goal

abbrev pub invariant-loop-at : goal.invariant-loop-at
invariant-loop-at l = record {
  counted : l.size ≡ length (index_spelling (take l.at l.entries));
  room : l.size ≤ 4096;
}
