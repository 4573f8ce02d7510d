use Rattle.std.proofs.Common.{◌++◌, map, ap, sym, ◌∙◌}
use Rattle.std.specs.FinMap.{from_entries}
use Rattle.std.specs.Cmp.Lexicographic.{nat_list_cmp_total}
use Rattle.std.proofs.lemmas.Map.Lookups.{exact_bytes}
use Rattle.rdf_types.specs.MapViews.{entries-ordered}
use Rattle.keyed_files.specs.Joined.{rows_of}
use Rattle.keyed_files.specs.Listed.{as_row, listed}
use Rattle.keyed_files.proofs.JoinedLemmas.{text}
use Rattle.keyed_files.proofs.OrderLemmas.{entries-joined}
use Rattle.keyed_files.proofs.ListedLemmas.{one_file}
use Rattle.keyed_files.proofs.files.KeyedFiles.rows.Goals as goal

pub loop-file-init : goal.loop-file-init
loop-file-init c =
    ap (λ xs. xs ++ map as_row (rows_of c.into_iter-file-iterator.result)) c.new-rows.ensures.items
    ∙ ap (λ fs. map as_row (rows_of fs)) (c.into_iter-file-iterator.ensures.into_iter_gives ∙ c.iter-file-items.ensures.rest
    ∙ sym (entries-ordered text nat_list_cmp_total exact_bytes c.self.inside.files.entries c.iter-file-items.ensures.ordered))
    ∙ ap (map as_row) (sym (entries-joined (from_entries c.self.inside.files.entries)))
    ∙ ap listed c.self.view_is

pub loop-file-preserved : goal.loop-file-preserved
loop-file-preserved c =
    ap (λ rows. rows ++ map as_row (rows_of c.next.new.self)) c.in_ok-push_rows.ensures
    ∙ one_file c.loop-file.rows.items (c.in-Some.file.now, c.in-Some.of_file.now) c.next.new.self
    ∙ ap (λ fs. c.loop-file.rows.items ++ map as_row (rows_of fs)) (sym c.in-Some.ensures.steps)
    ∙ c.loop-file.invariant
