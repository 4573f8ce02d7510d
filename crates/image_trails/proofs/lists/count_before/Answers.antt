use Rattle.std.proofs.Common.{nat_le, nat_lt, get_or, arith, rules}
use Rattle.std.proofs.lemmas.Bool.{ltb-true}
use Rattle.std.proofs.lemmas.List.Sorted.{IsPartitionPoint-from_clause, IsPartitionedBy-ltb}
use Rattle.rdf_types.specs.declared.records.Stamped.{Stamped}
use Rattle.rdf_types.specs.Filters.{take_filter, drop_filter}
use Rattle.image_trails.proofs.Sorted.{flipped}
use Rattle.image_trails.proofs.lists.count_before.Goals as goal

pub returns-clause-before : goal.returns-clause-before
returns-clause-before c = λ rises.
    let parted = IsPartitionedBy-ltb (λ (s : Stamped). s.pos) _ c.args.at rises in
    let point = IsPartitionPoint-from_clause (λ (s : Stamped). nat_lt s.pos c.args.at) _ _ c.partition_point.ensures.partitioned parted (λ a r q k. search rules) in
    take_filter (λ (s : Stamped). nat_lt s.pos c.args.at) c.args.list.now.items c.partition_point.result point.0 point.1 (omega (arith, c.partition_point.ensures.bound, c.args.list.now.ok.0))

pub returns-clause-behind : goal.returns-clause-behind
returns-clause-behind c = λ rises.
    let parted = IsPartitionedBy-ltb (λ (s : Stamped). s.pos) _ c.args.at rises in
    let point = IsPartitionPoint-from_clause (λ (s : Stamped). nat_lt s.pos c.args.at) _ _ c.partition_point.ensures.partitioned parted (λ a r q k. search rules) in
    drop_filter (λ (s : Stamped). nat_lt s.pos c.args.at) (λ (s : Stamped). nat_le c.args.at s.pos) (λ s. flipped s.pos c.args.at) c.args.list.now.items c.partition_point.result point.0 point.1 (omega (arith, c.partition_point.ensures.bound, c.args.list.now.ok.0))

pub returns-clause-past : goal.returns-clause-past
returns-clause-past c = λ rises i s before within.
    let parted = IsPartitionedBy-ltb (λ (s : Stamped). s.pos) _ c.args.at rises in
    let point = IsPartitionPoint-from_clause (λ (s : Stamped). nat_lt s.pos c.args.at) _ _ c.partition_point.ensures.partitioned parted (λ a r q k. search rules) in
    ltb-true (get_or c.args.list.now.items i s).pos c.args.at (point.0 i s (omega arith) before)
