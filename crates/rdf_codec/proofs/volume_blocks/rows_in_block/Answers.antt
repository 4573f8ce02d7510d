use Rattle.std.proofs.Common.{arith}
use Rattle.rdf_codec.proofs.Blocks.{first_fill, some_fit}
use Rattle.rdf_codec.proofs.volume_blocks.rows_in_block.Goals as goal

pub returns-then-size-gt-MOST_BYTES-clause-fills : goal.returns-then-size-gt-MOST_BYTES-clause-fills
returns-then-size-gt-MOST_BYTES-clause-fills c some rising =
    let fit = some_fit c.loop-at.at c.loop-at.size c.row_length-size.result c.args.rows.now c.loop-at.invariant.counted c.row_length-size.ensures.few (omega arith) in
    first_fill c.loop-at.at c.args.rows.now fit (omega arith) (omega (arith, c.loop-at.invariant.counted)) rising
