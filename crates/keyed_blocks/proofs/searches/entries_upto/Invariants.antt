use Rattle.std.proofs.Common.{◌-◌, ◌≡◌, ◌+◌, ◌≤◌, ℕ, Some, true, false, length, slice_get}
use Rattle.std.specs.Ordering.{is_lt}
use Rattle.rdf_types.specs.Places.{row_cmp}
use Rattle.rdf_codec.specs.declared.index_entries.IndexEntry.{IndexEntry}
use Rattle.keyed_blocks.specs.Bases.{entry_place}
use Rattle.keyed_blocks.proofs.searches.entries_upto.Given as goal

abbrev pub invariant-loop-low : goal.invariant-loop-low
invariant-loop-low l = record {
  order : l.low ≤ l.high;
  within : l.high ≤ length l.entries;
  last : (i : ℕ) (e : IndexEntry) → i + 1 ≡ l.low → slice_get l.entries i ≡ Some e → is_lt (row_cmp (l.file, l.key) (entry_place e)) ≡ false;
  next : (e : IndexEntry) → slice_get l.entries l.high ≡ Some e → is_lt (row_cmp (l.file, l.key) (entry_place e)) ≡ true;
}

abbrev pub decreases-loop-low : goal.decreases-loop-low
decreases-loop-low l = l.high - l.low
