use Rattle.std.specs.Ordering.{nat_cmp}
use Rattle.std.specs.Cmp.Lexicographic.{slice_cmp, nat_list_cmp_total}
use Rattle.std.proofs.lemmas.Map.Lookups.{exact_bytes}
use Rattle.std.proofs.Common.{ap, ◌∙◌}
use Rattle.std.specs.FinMap as map
use Rattle.rdf_types.specs.MapViews.{entries_removed, get_entries}
use Rattle.keyed_files.proofs.file_rows.FileRows.remove.Goals as goal

pub returns-clause-after : goal.returns-clause-after
returns-clause-after c =
    entries_removed (slice_cmp nat_cmp) nat_list_cmp_total exact_bytes c.self.inside.values.entries c.remove.new.self.entries c.args.key.now c.remove.ensures.updates.0
    ∙ ap (λ m. map.remove m c.args.key.now) c.self.view_is

pub returns-clause-value : goal.returns-clause-value
returns-clause-value c =
    c.remove.ensures.value ∙ get_entries (slice_cmp nat_cmp) nat_list_cmp_total c.self.inside.values.entries c.args.key.now ∙ ap (λ m. map.get m c.args.key.now) c.self.view_is
