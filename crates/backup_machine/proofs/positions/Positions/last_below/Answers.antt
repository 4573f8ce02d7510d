use Rattle.std.proofs.Common.{◌≡◌, ℕ, nat_lt, rules, ap, sym, subst, take, filter, ◌∙◌}
use Rattle.std.specs.List.Sorted.{IsNonDecreasing}
use Rattle.std.proofs.lemmas.List.Sorted.{IsPartitionPoint-from_clause, IsPartitionedBy-ltb}
use Rattle.backup_machine.specs.Positions.{last_in}
use Rattle.rdf_types.specs.Filters.{take_filter}
use Rattle.backup_machine.proofs.positions.Positions.last_below.Goals as goal

pub returns : goal.returns
returns c = λ rises.
    let same : c.deref.result.now ≡ c.args.self.now = c.deref.ensures.value ∙ c.self.view_is in
    let parted = IsPartitionedBy-ltb (λ (p : ℕ). p) c.deref.result.now c.args.upto (subst IsNonDecreasing (sym same) rises) in
    let point = IsPartitionPoint-from_clause (λ (p : ℕ). nat_lt p c.args.upto) c.deref.result.now c.partition_point-count.result c.partition_point-count.ensures.partitioned parted (λ a r q k. search rules) in
    let first = take_filter (λ (p : ℕ). nat_lt p c.args.upto) c.deref.result.now c.partition_point-count.result point.0 point.1 c.partition_point-count.ensures.bound in
    c.copied.ensures ∙ c.last.ensures.value
    ∙ ap last_in (ap (take c.partition_point-count.result) (c.deref-2.ensures.value ∙ sym c.deref.ensures.value) ∙ first ∙ ap (filter (λ p. nat_lt p c.args.upto)) same)
