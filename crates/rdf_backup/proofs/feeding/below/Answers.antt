use Rattle.std.proofs.Common.{◌≡◌, ℕ, nat_le, nat_lt, not, arith, rules}
use Rattle.std.proofs.lemmas.Bool.Decides.{nat_tests}
use Rattle.std.proofs.lemmas.List.Sorted.{IsPartitionPoint-from_clause, IsPartitionedBy-ltb}
use Rattle.rdf_types.specs.declared.records.Stamped.{Stamped}
use Rattle.rdf_types.specs.Filters.{drop_filter}
use Rattle.rdf_types.specs.EntryLaws.{not_falling}
use Rattle.rdf_backup.proofs.feeding.below.Goals as goal

flipped : (a b : ℕ) → nat_le b a ≡ not (nat_lt a b)
flipped a b = grind (arith, nat_tests)

pub returns-clause-rest : goal.returns-clause-rest
returns-clause-rest c =
    let parted = IsPartitionedBy-ltb (λ (s : Stamped). s.pos) _ c.args.from (not_falling 0 c.args.part.now c.requires) in
    let point = IsPartitionPoint-from_clause (λ (s : Stamped). nat_lt s.pos c.args.from) _ _ c.partition_point.ensures.partitioned parted (λ a r q k. search rules) in
    drop_filter (λ (s : Stamped). nat_lt s.pos c.args.from) (λ (s : Stamped). nat_le c.args.from s.pos) (λ s. flipped s.pos c.args.from) c.args.part.now c.partition_point.result point.0 point.1 c.partition_point.ensures.bound
