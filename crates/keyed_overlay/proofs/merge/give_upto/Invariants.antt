use Rattle.std.proofs.Common.{◌≡◌, ◌++◌}
use Rattle.std.specs.VecDeque.{deque_len}
use Rattle.rdf_model.specs.Rows.{row_place}
use Rattle.keyed_overlay.specs.Merging.{rows_upto, rows_from}
use Rattle.keyed_overlay.proofs.merge.give_upto.Given as goal

abbrev pub invariant-loop-next : goal.invariant-loop-next
invariant-loop-next l = record {
  rows : l.rows.items ++ rows_upto (row_place l.row) l.to_come.items ≡ l.initial.rows.items ++ rows_upto (row_place l.row) l.initial.to_come.items;
  to_come : rows_from (row_place l.row) l.to_come.items ≡ rows_from (row_place l.row) l.initial.to_come.items;
}

abbrev pub decreases-loop-next : goal.decreases-loop-next
decreases-loop-next l = deque_len l.to_come
