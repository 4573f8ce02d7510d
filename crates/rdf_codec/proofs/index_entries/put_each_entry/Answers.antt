use Rattle.rdf_codec.specs.VolumeBlocks.{entry_spelling, IsIndexEntry}
use Rattle.rdf_codec.proofs.Steps.{All-next, spelled_next}
use Rattle.rdf_codec.proofs.index_entries.put_each_entry.Goals as goal

pub loop-entry-preserved : goal.loop-entry-preserved
loop-entry-preserved c =
    let lt = c.loop-entry-test.true in
    record {
      written = spelled_next entry_spelling c.args.out.now.items _ _ c.args.entries.now c.loop-entry.entry-index c.entry-item.result lt c.entry-item.is c.loop-entry.invariant.written c.in_ok-write_entry.ensures.ok;
      within = All-next IsIndexEntry c.args.entries.now c.loop-entry.entry-index c.entry-item.result lt c.entry-item.is c.loop-entry.invariant.within c.write_entry.ensures.limits;
    }
