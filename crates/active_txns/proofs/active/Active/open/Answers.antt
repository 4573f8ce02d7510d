use Rattle.std.proofs.Common.{ap, sym, ◌∙◌, ◌++◌}
use Rattle.std.specs.FinMap as map
use Rattle.std.specs.Ordering.{nat_cmp}
use Rattle.std.specs.Cmp.{nat_cmp_total}
use Rattle.std.proofs.lemmas.Map.Lookups.{exact_unsigned}
use Rattle.rdf_types.specs.MapViews.{entries-ordered}
use Rattle.active_txns.specs.Founds.{finders}
use Rattle.active_txns.proofs.active.Active.open.Goals as goal

pub loop-txn-init : goal.loop-txn-init
loop-txn-init c =
    ap (λ xs. xs ++ finders c.into_iter-txn-iterator.result) c.new-txns.ensures.items
    ∙ ap finders (c.into_iter-txn-iterator.ensures.into_iter_gives ∙ c.iter-txn-items.ensures.rest
    ∙ sym (entries-ordered nat_cmp nat_cmp_total exact_unsigned c.self.inside.by_txn.entries c.iter-txn-items.ensures.ordered)
    ∙ ap map.entries c.self.view_is)
