use Rattle.std.proofs.Common.{◌≡◌, ◌∙◌, ℕ, nat_le, nat_lt, not, arith, rules}
use Rattle.std.proofs.lemmas.Bool.Decides.{nat_tests}
use Rattle.std.proofs.lemmas.List.{take_rest}
use Rattle.std.proofs.lemmas.List.Sorted.{IsPartitionPoint-from_clause, IsPartitionedBy-ltb}
use Rattle.rdf_types.specs.declared.records.Stamped.{Stamped}
use Rattle.rdf_types.specs.Filters.{drop_filter}
use Rattle.rdf_types.specs.EntryLaws.{not_falling}
use Rattle.rdf_types.proofs.entries.since.Goals as goal

flipped : (a b : ℕ) → nat_le b a ≡ not (nat_lt a b)
flipped a b = grind (arith, nat_tests)

pub returns : goal.returns
returns c =
    let parted = IsPartitionedBy-ltb (λ (s : Stamped). s.pos) _ c.args.at (not_falling 0 c.args.part.now c.requires) in
    let point = IsPartitionPoint-from_clause (λ (s : Stamped). nat_lt s.pos c.args.at) _ _ c.partition_point-start.ensures.partitioned parted (λ a r q k. search rules) in
    take_rest c.args.part.now c.partition_point-start.result
    ∙ drop_filter (λ (s : Stamped). nat_lt s.pos c.args.at) (λ (s : Stamped). nat_le c.args.at s.pos) (λ s. flipped s.pos c.args.at) c.args.part.now c.partition_point-start.result point.0 point.1 c.partition_point-start.ensures.bound
