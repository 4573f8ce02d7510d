use Rattle.std.proofs.Common.{arith}
use Rattle.rdf_codec.proofs.Blocks.{index_fills, entry_fits}
use Rattle.rdf_codec.proofs.index_entries.entries_in_block.Goals as goal

pub returns-then-size-gt-MOST_BYTES-clause-fills : goal.returns-then-size-gt-MOST_BYTES-clause-fills
returns-then-size-gt-MOST_BYTES-clause-fills c some =
    let fit = entry_fits c.loop-at.at c.loop-at.size c.entry_length-size.result c.args.entries.now c.loop-at.invariant.counted c.entry_length-size.ensures.few (omega arith) in
    index_fills c.loop-at.at c.args.entries.now fit (omega arith) (omega (arith, c.loop-at.invariant.counted))
