-- The transactions that a stop leaves without outcome, in the order in which volume recovery backs them out.
use Rattle.std.specs.Prelude.{ℕ, not, List, [], fold, filter, filter_map}
use Rattle.std.specs.BTreeSet.{insert_key}
use Rattle.std.specs.Ordering.{nat_cmp}
use Rattle.rdf_types.specs.declared.records.Record.{Record}
use Rattle.rdf_model.specs.Trail.{is_ended, image_txn}

-- each of the numbers once, by rising number
abbrev pub rising : List ℕ → List ℕ
rising ts = fold (insert_key nat_cmp) [] ts

-- the transactions with an image and no outcome, by rising number
abbrev pub losers : List Record → List ℕ
losers trail = rising (filter (λ t. not (is_ended t trail)) (filter_map image_txn trail))
