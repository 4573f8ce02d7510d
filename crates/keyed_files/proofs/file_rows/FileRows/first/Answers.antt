use Rattle.std.proofs.Common.{slice_get, ap, ◌∙◌}
use Rattle.std.specs.FinMap as map
use Rattle.std.specs.Ordering.{nat_cmp}
use Rattle.std.specs.Cmp.Lexicographic.{slice_cmp, nat_list_cmp_total}
use Rattle.std.proofs.lemmas.Map.Lookups.{exact_bytes}
use Rattle.rdf_types.specs.MapViews.{entries-ordered}
use Rattle.keyed_files.proofs.OrderLemmas.{head_shown}
use Rattle.keyed_files.proofs.file_rows.FileRows.first.Goals as goal
use Rattle.std.proofs.Common.{sym}

pub returns : goal.returns
returns c =
    head_shown (λ e. (e.0.now, e.1.now)) c.next.result c.iter.result c.next.new.self c.next.ensures.steps
    ∙ ap (λ es. slice_get es 0) (c.iter.ensures.rest
    ∙ sym (entries-ordered (slice_cmp nat_cmp) nat_list_cmp_total exact_bytes c.self.inside.values.entries c.iter.ensures.ordered)
    ∙ ap map.entries c.self.view_is)
