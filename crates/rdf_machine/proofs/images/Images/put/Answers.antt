use Rattle.std.proofs.Common.{ap, ◌∙◌}
use Rattle.std.specs.FinMap as map
use Rattle.rdf_types.specs.MapViews.{entries_given}
use Rattle.rdf_types.specs.Places.{place_cmp, place_cmp_total, place_cmp_exact}
use Rattle.rdf_machine.proofs.images.Images.put.Goals as goal

pub returns-clause-ok : goal.returns-clause-ok
returns-clause-ok c =
    entries_given place_cmp place_cmp_total place_cmp_exact c.self.inside.by_place.entries c.insert.new.self.entries c.args.key c.args.positions c.in_ok-insert.ensures.updates.0
    ∙ ap (λ m. map.insert m c.args.key c.args.positions) c.self.view_is
