use Rattle.std.proofs.Common.{◌≡◌, option_map, slice_get, ap, sym, ◌∙◌}
use Rattle.std.specs.Cmp.Lexicographic.{nat_list_cmp_total}
use Rattle.std.proofs.lemmas.Map.Lookups.{exact_bytes}
use Rattle.rdf_types.specs.MapViews.{get_entries}
use Rattle.keyed_files.specs.Joined.{row_of, own_above}
use Rattle.keyed_files.proofs.JoinedLemmas.{text}
use Rattle.keyed_files.proofs.OrderLemmas.{tagged, own_found}
use Rattle.keyed_files.proofs.files.next_in_file.Goals as goal

pub returns-in_default : goal.returns-in_default
returns-in_default c =
    ap (λ o. slice_get (own_above (c.args.file.now, c.args.key.now) o) 0) (c.in_default.ensures.value ∙ get_entries text nat_list_cmp_total c.args.files.now.entries c.args.file.now)

pub returns : goal.returns
returns c =
    let same : c.in-Some.same_file.now ≡ c.args.file.now = sym (exact_bytes c.args.file.now c.in-Some.same_file.now c.in-Some.ensures.same_key) in
    c.with_file.ensures ∙ tagged (λ e. (e.0.now, e.1.now)) c.in-Some.same_file.now c.next_after.result
    ∙ (λ i. option_map (row_of (same i)) (c.next_after.ensures i))
    ∙ own_found (c.args.file.now, c.args.key.now) c.in-Some.rows.now
    ∙ ap (λ o. slice_get (own_above (c.args.file.now, c.args.key.now) o) 0) (c.in-Some.ensures.value ∙ get_entries text nat_list_cmp_total c.args.files.now.entries c.args.file.now)
