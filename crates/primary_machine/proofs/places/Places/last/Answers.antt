use Rattle.std.proofs.Common.{ap, ◌∙◌}
use Rattle.std.specs.FinMap as map
use Rattle.rdf_types.specs.Places.{place_cmp, place_cmp_total}
use Rattle.rdf_types.specs.MapViews.{get_entries}
use Rattle.primary_machine.proofs.places.Places.last.Goals as goal

pub returns : goal.returns
returns c = c.get.ensures.value ∙ get_entries place_cmp place_cmp_total c.self.inside.lasts.entries c.args.key.now ∙ ap (λ m. map.get m c.args.key.now) c.self.view_is
