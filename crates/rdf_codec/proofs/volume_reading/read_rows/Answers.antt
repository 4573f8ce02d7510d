use Rattle.std.proofs.Common.{◌+◌, ◌-◌, ◌∷◌, [], ◌++◌, arith}
use Rattle.rdf_codec.specs.Reading.{left_of}
use Rattle.rdf_codec.specs.Shown.{row_of, place_in}
use Rattle.rdf_codec.specs.VolumeReading.{row_at, next_row}
use Rattle.rdf_codec.proofs.ReadLists.{stepped, made}
use Rattle.rdf_codec.proofs.volume_reading.read_rows.Goals as goal

pub loop-done-preserved : goal.loop-done-preserved
loop-done-preserved c =
    let so_far = c.loop-done.invariant.read in
    let entry = row_of c.in_ok-row.row in
    record {
      near = omega (arith, c.loop-done.invariant.near, c.in_ok-row.ensures.near);
      read = (
        so_far.0 ++ entry ∷ [],
        stepped row_at next_row _ so_far.0 (c.args.count - c.loop-done._done) (c.args.count - (c.loop-done._done + 1)) (place_in c.loop-done.last) (left_of c.loop-done.rest) entry (left_of c.in_ok-row.behind) so_far.1 (omega arith) c.in_ok-row.ensures.value,
        made c.loop-done.rows c.with_entry-rows.result c.row.result so_far.0 entry so_far.2 c.row.ensures c.with_entry-rows.ensures,
      );
    }
