use Rattle.std.proofs.Common.{◌+◌, ◌-◌, ◌∷◌, [], ◌++◌, ℕ, arith}
use Rattle.rdf_codec.specs.Reading.{left_of}
use Rattle.rdf_codec.specs.Shown.{change_of}
use Rattle.rdf_codec.specs.VolumeReading.{change_at}
use Rattle.rdf_codec.proofs.ReadLists.{stepped, made}
use Rattle.rdf_codec.proofs.volume_reading.read_changes.Goals as goal

pub loop-done-preserved : goal.loop-done-preserved
loop-done-preserved c =
    let so_far = c.loop-done.invariant.read in
    let entry = change_of c.in_ok-change.change in
    record {
      near = omega (arith, c.loop-done.invariant.near, c.in_ok-change.ensures.near);
      read = (
        so_far.0 ++ entry ∷ [],
        stepped {S = ℕ} (λ _. change_at) (λ _. 0) _ so_far.0 (c.args.count - c.loop-done._done) (c.args.count - (c.loop-done._done + 1)) 0 (left_of c.loop-done.rest) entry (left_of c.in_ok-change.behind) so_far.1 (omega arith) c.in_ok-change.ensures.value,
        made c.loop-done.changes c.with_entry-changes.result c.change.result so_far.0 entry so_far.2 c.change.ensures c.with_entry-changes.ensures,
      );
    }
