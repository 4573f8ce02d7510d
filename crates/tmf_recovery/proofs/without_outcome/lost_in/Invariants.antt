use Rattle.std.proofs.Common.{◌≡◌, drop, fold}
use Rattle.std.specs.BTreeSet.{insert_key}
use Rattle.std.specs.Ordering.{nat_cmp}
use Rattle.rdf_model.specs.Losers.{rising}
use Rattle.rdf_model.specs.Settled.{has}
use Rattle.tmf_recovery.proofs.NotedLemmas.{left}
use Rattle.tmf_recovery.proofs.without_outcome.lost_in.Given as goal

abbrev pub invariant-loop-rec : goal.invariant-loop-rec
invariant-loop-rec l = fold (insert_key nat_cmp) l.lost.keys (left (has l.ended) (drop l.rec-index l.records)) ≡ rising (left (has l.ended) l.records)
