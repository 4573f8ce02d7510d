use Rattle.std.proofs.Common.{option_map, slice_get, ap, sym, ◌∙◌}
use Rattle.std.specs.FinMap as map
use Rattle.std.specs.Cmp.Lexicographic.{nat_list_cmp_total}
use Rattle.std.proofs.lemmas.Map.Lookups.{exact_bytes}
use Rattle.rdf_types.specs.MapViews.{entries-ordered}
use Rattle.keyed_files.specs.Joined.{row_of}
use Rattle.keyed_files.proofs.JoinedLemmas.{text}
use Rattle.keyed_files.proofs.OrderLemmas.{head_shown, none_next, some_next, tagged}
use Rattle.keyed_files.proofs.files.first_row.Goals as goal

pub returns-in_default : goal.returns-in_default
returns-in_default c =
    none_next (λ f. (f.0.now, f.1.now)) c.next.result (slice_get (map.entries (map.from_entries {R = text} c.args.files.now.entries)) 0) c.in_default.is
    (head_shown (λ f. (f.0.now, f.1.now)) c.next.result c.iter.result c.next.new.self c.next.ensures.steps
    ∙ ap (λ fs. slice_get fs 0) (c.iter.ensures.rest ∙ sym (entries-ordered text nat_list_cmp_total exact_bytes c.args.files.now.entries c.iter.ensures.ordered)))

pub returns : goal.returns
returns c =
    c.with_file.ensures ∙ tagged (λ e. (e.0.now, e.1.now)) c.in-Some.file.now c.first.result ∙ ap (option_map (row_of c.in-Some.file.now)) c.first.ensures
    ∙ some_next (λ f. (f.0.now, f.1.now)) c.next.result (c.in-Some.file, c.in-Some.rows) (slice_get (map.entries (map.from_entries {R = text} c.args.files.now.entries)) 0) c.in-Some.is
    (head_shown (λ f. (f.0.now, f.1.now)) c.next.result c.iter.result c.next.new.self c.next.ensures.steps
    ∙ ap (λ fs. slice_get fs 0) (c.iter.ensures.rest ∙ sym (entries-ordered text nat_list_cmp_total exact_bytes c.args.files.now.entries c.iter.ensures.ordered)))
