use Rattle.std.proofs.Common.{◌≡◌, ℕ, length}
use Rattle.std.specs.FinMap.{entries, len}
use Rattle.tmf_core.specs.Stores.{counts_at}
use Rattle.tmf_core.proofs.Backs.{PutBack}
use Rattle.tmf_core.proofs.backout.put_all_back.Given as goal

abbrev pub invariant-loop-key : goal.invariant-loop-key
invariant-loop-key g l = record {
  so_far : g.D.Disk.tells → PutBack g.D.Disk.files l.txn l.fn.store (entries l.fn.found) l.store (entries l.found);
  many : length l.store.volumes.items ≡ length l.fn.store.volumes.items;
  counts : (disk : ℕ) → counts_at g.D.Disk.counts l.store disk ≡ counts_at g.D.Disk.counts l.fn.store disk;
}

abbrev pub decreases-loop-key : goal.decreases-loop-key
decreases-loop-key g l = len l.found
