use Rattle.std.proofs.Common.{◌≡◌, ℕ, ◌+◌, ◌-◌, ◌*◌, ◌≤◌, List}
use Rattle.std.specs.Prelude.{IfOk}
use Rattle.rdf_codec.specs.declared.index_entries.IndexEntry.{IndexEntry}
use Rattle.rdf_codec.specs.Reading.{left_of}
use Rattle.rdf_codec.specs.Lists.{entries_at}
use Rattle.rdf_codec.specs.VolumeReading.{entry_at}
use Rattle.rdf_codec.proofs.ReadLists.{SoFar}
use Rattle.rdf_codec.proofs.volume_reading.read_entries.Given as goal

abbrev pub invariant-loop-done : goal.invariant-loop-done
invariant-loop-done l = record {
  near : l.rest.at ≤ 3 + 58 * l._done;
  read : (done : List IndexEntry) × SoFar {S = ℕ} (λ _. entry_at) (λ _. 0) (entries_at {S = ℕ} (λ _. entry_at) (λ _. 0) l.count 0 (left_of l.input)) done (l.count - l._done) 0 (left_of l.rest) × IfOk l.entries (λ v. v.items ≡ done);
}
