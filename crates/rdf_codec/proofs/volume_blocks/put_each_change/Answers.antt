use Rattle.rdf_codec.specs.Spelling.{change_spelling, IsChange}
use Rattle.rdf_codec.proofs.Steps.{All-next, spelled_next}
use Rattle.rdf_codec.proofs.volume_blocks.put_each_change.Goals as goal

pub loop-change-preserved : goal.loop-change-preserved
loop-change-preserved c =
    let lt = c.loop-change-test.true in
    record {
      written = spelled_next change_spelling c.args.out.now.items _ _ c.args.changes.now c.loop-change.change-index c.change-item.result lt c.change-item.is c.loop-change.invariant.written c.in_ok-write_change.ensures.ok;
      within = All-next IsChange c.args.changes.now c.loop-change.change-index c.change-item.result lt c.change-item.is c.loop-change.invariant.within c.write_change.ensures.limits;
    }
