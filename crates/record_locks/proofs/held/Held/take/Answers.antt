use Rattle.std.proofs.Common.{ap, ◌∙◌}
use Rattle.std.specs.FinMap as map
use Rattle.std.specs.Ordering.{nat_cmp}
use Rattle.std.specs.Cmp.{nat_cmp_total}
use Rattle.std.proofs.lemmas.Map.Lookups.{exact_unsigned}
use Rattle.rdf_types.specs.MapViews.{get_entries, entries_removed}
use Rattle.record_locks.proofs.held.Held.take.Goals as goal

pub returns-clause-value : goal.returns-clause-value
returns-clause-value c = c.remove.ensures.value ∙ get_entries nat_cmp nat_cmp_total _ c.args.txn ∙ ap (λ m. map.get m c.args.txn) c.self.view_is

pub returns-clause-after : goal.returns-clause-after
returns-clause-after c = entries_removed nat_cmp nat_cmp_total exact_unsigned _ _ c.args.txn c.remove.ensures.updates.0 ∙ ap (λ m. map.remove m c.args.txn) c.self.view_is
