use Rattle.std.proofs.Common.{◌++◌, ap, sym, ◌∙◌}
use Rattle.std.specs.FinMap as map
use Rattle.std.specs.Ordering.{nat_cmp}
use Rattle.std.specs.Cmp.Lexicographic.{slice_cmp, nat_list_cmp_total}
use Rattle.std.proofs.lemmas.Map.Lookups.{exact_bytes}
use Rattle.rdf_types.specs.MapViews.{entries-ordered}
use Rattle.keyed_files.specs.Listed.{rows_at}
use Rattle.keyed_files.proofs.file_rows.FileRows.push_rows.Goals as goal

pub loop-key-init : goal.loop-key-init
loop-key-init c =
    ap (λ es. c.args.rows.now.items ++ rows_at c.args.file.now es) (c.into_iter-key-iterator.ensures.into_iter_gives ∙ c.iter-key-items.ensures.rest
    ∙ sym (entries-ordered (slice_cmp nat_cmp) nat_list_cmp_total exact_bytes c.self.inside.values.entries c.iter-key-items.ensures.ordered)
    ∙ ap map.entries c.self.view_is)
