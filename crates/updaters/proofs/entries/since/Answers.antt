use Rattle.std.proofs.Common.{◌∙◌, List, map, nat_lt, ap, rules}
use Rattle.std.proofs.lemmas.List.{take_rest}
use Rattle.std.proofs.lemmas.List.Sorted.{IsPartitionPoint-from_clause, IsPartitionedBy-ltb}
use Rattle.updaters.proofs.Holding.{held_rise, held_since}
use Rattle.updaters.proofs.entries.since.Goals as goal

pub returns : goal.returns
returns g c =
    let parted = IsPartitionedBy-ltb (λ (x : g.row.E.Denot). (g.E.Held.stands x).pos) _ c.args.at (held_rise g.E.Held.stands c.args.part.now c.requires) in
    let point = IsPartitionPoint-from_clause (λ (x : g.row.E.Denot). nat_lt (g.E.Held.stands x).pos c.args.at) _ _ c.partition_point-start.ensures.partitioned parted (λ a r q k. search rules) in
    ap (λ (l : List g.row.E.Denot). map g.E.Held.stands l) (take_rest c.args.part.now c.partition_point-start.result)
    ∙ held_since g.E.Held.stands c.args.at c.args.part.now c.partition_point-start.result point.0 point.1 c.partition_point-start.ensures.bound
