use Rattle.std.proofs.Common.{◌+◌, ◌-◌, ◌∷◌, [], ◌++◌, ℕ, arith}
use Rattle.rdf_codec.specs.Reading.{left_of}
use Rattle.rdf_codec.specs.Shown.{entry_of}
use Rattle.rdf_codec.specs.VolumeReading.{entry_at}
use Rattle.rdf_codec.proofs.ReadLists.{stepped, made}
use Rattle.rdf_codec.proofs.volume_reading.read_entries.Goals as goal

pub loop-done-preserved : goal.loop-done-preserved
loop-done-preserved c =
    let so_far = c.loop-done.invariant.read in
    let entry = entry_of c.in_ok-entry.entry in
    record {
      near = omega (arith, c.loop-done.invariant.near, c.in_ok-entry.ensures.near);
      read = (
        so_far.0 ++ entry ∷ [],
        stepped {S = ℕ} (λ _. entry_at) (λ _. 0) _ so_far.0 (c.args.count - c.loop-done._done) (c.args.count - (c.loop-done._done + 1)) 0 (left_of c.loop-done.rest) entry (left_of c.in_ok-entry.behind) so_far.1 (omega arith) c.in_ok-entry.ensures.value,
        made c.loop-done.entries c.with_entry-entries.result c.entry.result so_far.0 entry so_far.2 c.entry.ensures c.with_entry-entries.ensures,
      );
    }
