use Rattle.std.proofs.Common.{◌≡◌, ◌+◌, ◌-◌, ◌*◌, ◌≤◌, List, None}
use Rattle.std.specs.Prelude.{IfOk}
use Rattle.rdf_types.specs.declared.records.Row.{Row}
use Rattle.rdf_codec.specs.Reading.{left_of}
use Rattle.rdf_codec.specs.Shown.{place_in}
use Rattle.rdf_codec.specs.Lists.{entries_at}
use Rattle.rdf_codec.specs.VolumeReading.{row_at, next_row}
use Rattle.rdf_codec.proofs.ReadLists.{SoFar}
use Rattle.rdf_codec.proofs.volume_reading.read_rows.Given as goal

abbrev pub invariant-loop-done : goal.invariant-loop-done
invariant-loop-done l = record {
  near : l.rest.at ≤ 3 + 251 * l._done;
  read : (done : List Row) × SoFar row_at next_row (entries_at row_at next_row l.count None (left_of l.input)) done (l.count - l._done) (place_in l.last) (left_of l.rest) × IfOk l.rows (λ v. v.items ≡ done);
}
