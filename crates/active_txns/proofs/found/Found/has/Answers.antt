use Rattle.std.proofs.Common.{ap, ◌∙◌}
use Rattle.std.specs.FinMap as map
use Rattle.std.specs.Option.{is_some}
use Rattle.rdf_types.specs.Places.{place_cmp, place_cmp_total}
use Rattle.rdf_types.specs.MapViews.{get_entries}
use Rattle.active_txns.proofs.found.Found.has.Goals as goal

pub returns : goal.returns
returns c =
    c.contains_key.ensures ∙ ap (λ o. is_some o) (get_entries place_cmp place_cmp_total c.self.inside.by_place.entries c.args.key.now ∙ ap (λ m. map.get m c.args.key.now) c.self.view_is)
