use Rattle.std.specs.Ordering.{nat_cmp}
use Rattle.std.specs.Cmp.Lexicographic.{slice_cmp, nat_list_cmp_total}
use Rattle.std.proofs.Common.{ap, ◌∙◌}
use Rattle.std.specs.FinMap as map
use Rattle.rdf_types.specs.MapViews.{get_entries}
use Rattle.keyed_files.proofs.file_rows.FileRows.get.Goals as goal

pub returns : goal.returns
returns c = c.get.ensures.value ∙ get_entries (slice_cmp nat_cmp) nat_list_cmp_total c.self.inside.values.entries c.args.key.now ∙ ap (λ m. map.get m c.args.key.now) c.self.view_is
