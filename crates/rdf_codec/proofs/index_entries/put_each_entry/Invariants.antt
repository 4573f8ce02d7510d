use Rattle.std.proofs.Common.{◌≡◌, ◌++◌, take}
use Rattle.std.specs.List.{All, flat_map}
use Rattle.rdf_codec.specs.VolumeBlocks.{entry_spelling, IsIndexEntry}
use Rattle.rdf_codec.proofs.index_entries.put_each_entry.Given as goal

abbrev pub invariant-loop-entry : goal.invariant-loop-entry
invariant-loop-entry l = record {
  written : l.out.items ≡ l.initial.out.items ++ flat_map entry_spelling (take l.entry-index l.entries);
  within : All IsIndexEntry (take l.entry-index l.entries);
}
