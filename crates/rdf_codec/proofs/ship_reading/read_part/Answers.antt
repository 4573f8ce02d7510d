use Rattle.std.proofs.Common.{◌+◌, ◌-◌, ◌∷◌, [], ◌++◌, arith}
use Rattle.rdf_codec.specs.Reading.{left_of}
use Rattle.rdf_codec.specs.Shown.{stamped_of}
use Rattle.rdf_codec.specs.ShipReading.{stamped_at, next_position}
use Rattle.rdf_codec.proofs.ReadLists.{stepped, made}
use Rattle.rdf_codec.proofs.ship_reading.read_part.Goals as goal

pub loop-done-preserved : goal.loop-done-preserved
loop-done-preserved c =
    let so_far = c.loop-done.invariant.read in
    let entry = stamped_of c.in_ok-stamped.stamped in
    record {
      near = omega (arith, c.loop-done.invariant.near, c.in_ok-stamped.ensures.near);
      read = (
        so_far.0 ++ entry ∷ [],
        stepped (stamped_at c.args.to) next_position _ so_far.0 (c.args.count - c.loop-done._done) (c.args.count - (c.loop-done._done + 1)) c.loop-done.low (left_of c.loop-done.rest) entry (left_of c.in_ok-stamped.behind) so_far.1 (omega arith) c.in_ok-stamped.ensures.value,
        made c.loop-done.part c.with_entry-part.result c.stamped.result so_far.0 entry so_far.2 c.stamped.ensures c.with_entry-part.ensures,
      );
    }
