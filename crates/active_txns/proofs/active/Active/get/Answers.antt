use Rattle.std.proofs.Common.{ap, ◌∙◌}
use Rattle.std.specs.FinMap as map
use Rattle.std.specs.Ordering.{nat_cmp}
use Rattle.std.specs.Cmp.{nat_cmp_total}
use Rattle.rdf_types.specs.MapViews.{get_entries}
use Rattle.active_txns.proofs.active.Active.get.Goals as goal

pub returns : goal.returns
returns c = c.get.ensures.value ∙ get_entries nat_cmp nat_cmp_total c.self.inside.by_txn.entries c.args.txn ∙ ap (λ m. map.get m c.args.txn) c.self.view_is
