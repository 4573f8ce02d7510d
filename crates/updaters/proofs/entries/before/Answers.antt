use Rattle.std.proofs.Common.{nat_lt, rules}
use Rattle.std.proofs.lemmas.List.Sorted.{IsPartitionPoint-from_clause, IsPartitionedBy-ltb}
use Rattle.updaters.proofs.Holding.{held_rise, held_before}
use Rattle.updaters.proofs.entries.before.Goals as goal

pub returns : goal.returns
returns g c =
    let parted = IsPartitionedBy-ltb (λ (x : g.row.E.Denot). (g.E.Held.stands x).pos) _ c.args.at (held_rise g.E.Held.stands c.args.part.now c.requires) in
    let point = IsPartitionPoint-from_clause (λ (x : g.row.E.Denot). nat_lt (g.E.Held.stands x).pos c.args.at) _ _ c.partition_point-end.ensures.partitioned parted (λ a r q k. search rules) in
    held_before g.E.Held.stands c.args.at c.args.part.now c.partition_point-end.result point.0 point.1 c.partition_point-end.ensures.bound
