use Rattle.std.proofs.Common.{◌≡◌, ◌+◌, ◌-◌, ◌*◌, ◌≤◌, List}
use Rattle.std.specs.Prelude.{IfOk}
use Rattle.rdf_types.specs.declared.records.Stamped.{Stamped}
use Rattle.rdf_codec.specs.Reading.{left_of}
use Rattle.rdf_codec.specs.Lists.{entries_at}
use Rattle.rdf_codec.specs.ShipReading.{next_position, stamped_at}
use Rattle.rdf_codec.proofs.ReadLists.{SoFar}
use Rattle.rdf_codec.proofs.ship_reading.read_part.Given as goal

abbrev pub invariant-loop-done : goal.invariant-loop-done
invariant-loop-done l = record {
  near : l.rest.at ≤ 19 + 468 * l._done;
  read : (done : List Stamped) × SoFar (stamped_at l.to) next_position (entries_at (stamped_at l.to) next_position l.count l.from (left_of l.input)) done (l.count - l._done) l.low (left_of l.rest) × IfOk l.part (λ v. v.items ≡ done);
}
