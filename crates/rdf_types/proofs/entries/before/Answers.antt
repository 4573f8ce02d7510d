use Rattle.std.proofs.Common.{nat_lt, rules}
use Rattle.std.proofs.lemmas.List.Sorted.{IsPartitionPoint-from_clause, IsPartitionedBy-ltb}
use Rattle.rdf_types.specs.declared.records.Stamped.{Stamped}
use Rattle.rdf_types.specs.Filters.{take_filter}
use Rattle.rdf_types.specs.EntryLaws.{not_falling}
use Rattle.rdf_types.proofs.entries.before.Goals as goal

pub returns : goal.returns
returns c =
    let parted = IsPartitionedBy-ltb (λ (s : Stamped). s.pos) _ c.args.at (not_falling 0 c.args.part.now c.requires) in
    let point = IsPartitionPoint-from_clause (λ (s : Stamped). nat_lt s.pos c.args.at) _ _ c.partition_point-end.ensures.partitioned parted (λ a r q k. search rules) in
    take_filter (λ (s : Stamped). nat_lt s.pos c.args.at) c.args.part.now c.partition_point-end.result point.0 point.1 c.partition_point-end.ensures.bound
