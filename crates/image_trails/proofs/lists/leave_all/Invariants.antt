use Rattle.std.proofs.Common.{◌≡◌, ℕ, ◌<◌, ◌≤◌, filter}
use Rattle.std.specs.List.Sorted.{IsNonDecreasingBy}
use Rattle.rdf_types.specs.declared.records.Stamped.{Stamped}
use Rattle.image_trails.specs.Lists.{is_on}
use Rattle.image_trails.proofs.Sorted.{each}
use Rattle.image_trails.proofs.lists.leave_all.Given as goal

abbrev pub invariant-loop-list : goal.invariant-loop-list
invariant-loop-list l = record {
  done : (t : ℕ) → t < l.list-index → IsNonDecreasingBy (λ (s : Stamped). s.pos) (each l.fn.lists.items t) → each l.list-items t ≡ filter (λ (s : Stamped). is_on l.side l.at s.pos) (each l.fn.lists.items t);
  left : (t : ℕ) → l.list-index ≤ t → each l.list-items t ≡ each l.fn.lists.items t;
}
