use Rattle.rdf_codec.specs.Ships.{stamped_spelling, IsStamped}
use Rattle.rdf_codec.proofs.Steps.{All-next, spelled_next}
use Rattle.rdf_codec.proofs.ships.put_each_stamped.Goals as goal

pub loop-stamped-preserved : goal.loop-stamped-preserved
loop-stamped-preserved c =
    let lt = c.loop-stamped-test.true in
    record {
      written = spelled_next stamped_spelling c.args.out.now.items _ _ c.args.part.now c.loop-stamped.stamped-index c.stamped-item.result lt c.stamped-item.is c.loop-stamped.invariant.written c.in_ok-write_stamped.ensures.ok;
      within = All-next IsStamped c.args.part.now c.loop-stamped.stamped-index c.stamped-item.result lt c.stamped-item.is c.loop-stamped.invariant.within c.in_ok-write_stamped.ensures.limits;
    }
