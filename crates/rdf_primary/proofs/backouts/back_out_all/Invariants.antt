use Rattle.std.proofs.Common.{◌≡◌, ◌++◌, ℕ, false, fold}
use Rattle.std.specs.FinSet as set
use Rattle.rdf_model.specs.Lines.{after_abort}
use Rattle.rdf_model.specs.Trail.{open_in}
use Rattle.rdf_model.specs.Losers.{losers}
use Rattle.tmf_core.specs.Stores.{counts_at}
use Rattle.tmf_core.specs.States.{tmf_trail, tmf_volumes, is_down, RunsWith}
use Rattle.rdf_primary.proofs.backouts.back_out_all.Given as goal

abbrev pub invariant-loop-txn : goal.invariant-loop-txn
invariant-loop-txn g l = record {
  up : is_down l.tmf ≡ false;
  many : tmf_volumes l.tmf ≡ tmf_volumes l.fn.tmf;
  counts : (disk : ℕ) → counts_at g.D.Disk.counts l.tmf.store disk ≡ counts_at g.D.Disk.counts l.fn.tmf.store disk;
  runs : g.D.Disk.tells → RunsWith g.D.Disk.files (fold after_abort (tmf_trail l.fn.tmf) l.yielded) (fold set.remove (open_in (tmf_trail l.fn.tmf)) l.yielded) l.tmf;
  ahead : losers (tmf_trail l.fn.tmf) ≡ l.yielded ++ l.txn-iterator.rest.items;
}
