use Rattle.std.proofs.Common.{ap, sym, ◌∙◌, ◌++◌}
use Rattle.std.specs.FinMap as map
use Rattle.rdf_types.specs.Places.{place_cmp, place_cmp_total, place_cmp_exact}
use Rattle.rdf_types.specs.MapViews.{entries-ordered}
use Rattle.primary_machine.specs.Kept.{rows_in}
use Rattle.primary_machine.proofs.places.Places.rows.Goals as goal

pub loop-key-init : goal.loop-key-init
loop-key-init c =
    ap (λ xs. xs ++ rows_in c.args.vol c.into_iter-key-iterator.result) c.new-rows.ensures.items
    ∙ ap (rows_in c.args.vol) (c.into_iter-key-iterator.ensures.into_iter_gives ∙ c.iter-key-items.ensures.rest
    ∙ sym (entries-ordered place_cmp place_cmp_total place_cmp_exact c.self.inside.lasts.entries c.iter-key-items.ensures.ordered)
    ∙ ap map.entries c.self.view_is)
