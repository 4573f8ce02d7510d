use Rattle.std.proofs.Common.{slice_get, filter, ap, sym, ◌∙◌}
use Rattle.std.specs.FinMap as map
use Rattle.std.specs.Ordering.{nat_cmp, is_lt}
use Rattle.std.specs.Cmp.Lexicographic.{slice_cmp, nat_list_cmp_total}
use Rattle.std.proofs.lemmas.Map.Lookups.{exact_bytes}
use Rattle.rdf_types.specs.MapViews.{entries-ordered}
use Rattle.keyed_files.proofs.OrderLemmas.{head_shown, above_range}
use Rattle.keyed_files.proofs.file_rows.FileRows.next_after.Goals as goal

pub returns : goal.returns
returns c =
    head_shown (λ e. (e.0.now, e.1.now)) c.next.result c.range.result c.next.new.self c.next.ensures.steps
    ∙ ap (λ es. slice_get es 0) (c.range.ensures.between tt
    ∙ above_range c.args.key.now c.self.inside.values.entries
    ∙ ap (filter (λ e. is_lt (slice_cmp nat_cmp c.args.key.now e.0)))
    (sym (entries-ordered (slice_cmp nat_cmp) nat_list_cmp_total exact_bytes c.self.inside.values.entries c.range.ensures.ordered)
    ∙ ap map.entries c.self.view_is))
