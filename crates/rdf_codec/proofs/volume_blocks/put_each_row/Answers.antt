use Rattle.rdf_codec.specs.Spelling.{row_spelling, IsRow}
use Rattle.rdf_codec.proofs.Steps.{All-next, spelled_next}
use Rattle.rdf_codec.proofs.volume_blocks.put_each_row.Goals as goal

pub loop-row-preserved : goal.loop-row-preserved
loop-row-preserved c =
    let lt = c.loop-row-test.true in
    record {
      written = spelled_next row_spelling c.args.out.now.items _ _ c.args.rows.now c.loop-row.row-index c.row-item.result lt c.row-item.is c.loop-row.invariant.written c.in_ok-write_row.ensures.ok;
      within = All-next IsRow c.args.rows.now c.loop-row.row-index c.row-item.result lt c.row-item.is c.loop-row.invariant.within c.write_row.ensures.limits;
    }
