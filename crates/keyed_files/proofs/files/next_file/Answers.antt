use Rattle.std.proofs.Common.{option_map, slice_get, filter, ap, sym, ◌∙◌}
use Rattle.std.specs.FinMap as map
use Rattle.std.specs.Ordering.{is_lt}
use Rattle.std.specs.Cmp.Lexicographic.{nat_list_cmp_total}
use Rattle.std.proofs.lemmas.Map.Lookups.{exact_bytes}
use Rattle.rdf_types.specs.MapViews.{entries-ordered}
use Rattle.keyed_files.specs.Joined.{row_of, above}
use Rattle.keyed_files.proofs.JoinedLemmas.{text}
use Rattle.keyed_files.proofs.OrderLemmas.{head_shown, above_range, none_next, some_next, tagged}
use Rattle.keyed_files.proofs.files.next_file.Goals as goal

pub returns-in_default : goal.returns-in_default
returns-in_default c =
    none_next (λ f. (f.0.now, f.1.now)) c.next.result (slice_get (above (map.from_entries c.args.files.now.entries) c.args.file.now) 0) c.in_default.is
    (head_shown (λ f. (f.0.now, f.1.now)) c.next.result c.range.result c.next.new.self c.next.ensures.steps
    ∙ ap (λ fs. slice_get fs 0) (c.range.ensures.between tt ∙ above_range c.args.file.now c.args.files.now.entries
    ∙ ap (filter (λ f. is_lt (text c.args.file.now f.0))) (sym (entries-ordered text nat_list_cmp_total exact_bytes c.args.files.now.entries c.range.ensures.ordered))))

pub returns : goal.returns
returns c =
    c.with_file.ensures ∙ tagged (λ e. (e.0.now, e.1.now)) c.in-Some.other_file.now c.first.result ∙ ap (option_map (row_of c.in-Some.other_file.now)) c.first.ensures
    ∙ some_next (λ f. (f.0.now, f.1.now)) c.next.result (c.in-Some.other_file, c.in-Some.rows) (slice_get (above (map.from_entries c.args.files.now.entries) c.args.file.now) 0) c.in-Some.is
    (head_shown (λ f. (f.0.now, f.1.now)) c.next.result c.range.result c.next.new.self c.next.ensures.steps
    ∙ ap (λ fs. slice_get fs 0) (c.range.ensures.between tt ∙ above_range c.args.file.now c.args.files.now.entries
    ∙ ap (filter (λ f. is_lt (text c.args.file.now f.0))) (sym (entries-ordered text nat_list_cmp_total exact_bytes c.args.files.now.entries c.range.ensures.ordered))))
