use Rattle.std.proofs.Common.{ap, ◌∙◌}
use Rattle.std.specs.FinMap as map
use Rattle.rdf_types.specs.Places.{place_cmp, place_cmp_total, place_cmp_exact}
use Rattle.rdf_types.specs.MapViews.{entries_removed}
use Rattle.active_txns.proofs.found.Found.forget.Goals as goal

pub returns : goal.returns
returns c =
    entries_removed place_cmp place_cmp_total place_cmp_exact c.self.inside.by_place.entries c.remove.new.self.entries c.args.key.now c.remove.ensures.updates.0
    ∙ ap (λ m. map.remove m c.args.key.now) c.self.view_is
