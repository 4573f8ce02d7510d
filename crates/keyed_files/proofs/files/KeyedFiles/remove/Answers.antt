use Rattle.std.proofs.Common.{◌≡◌, Some, refl, ap, sym, subst, ◌∙◌}
use Rattle.std.specs.Option.{IsSome}
use Rattle.std.specs.FinMap as map
use Rattle.std.specs.Cmp.Lexicographic.{nat_list_cmp_total}
use Rattle.std.proofs.lemmas.Map.Lookups.{exact_bytes}
use Rattle.rdf_types.specs.MapViews.{get_entries, entries_given}
use Rattle.keyed_files.specs.Joined.{joined, AllFilled}
use Rattle.keyed_files.proofs.JoinedLemmas.{text, value_found, no_value_found, joined_absent, joined_remove, joined_gone, none_in, filled_insert, filled_remove, filled_left, remove-insert}
use Rattle.keyed_files.proofs.files.KeyedFiles.remove.Goals as goal

pub returns-in_default-clause-value : goal.returns-in_default-clause-value
returns-in_default-clause-value c =
    no_value_found (map.from_entries c.self.inside.files.entries) c.args.file.now c.args.key.now
    (sym (c.in_default.ensures.value ∙ get_entries text nat_list_cmp_total c.self.inside.files.entries c.args.file.now))
    ∙ ap (λ m. map.get m (c.args.file.now, c.args.key.now)) c.self.view_is

pub returns-in_default-clause-after : goal.returns-in_default-clause-after
returns-in_default-clause-after c =
    ap (λ m. joined (map.from_entries {R = text} m.entries)) c.get_mut.follows.holds-at-none
    ∙ joined_absent (map.from_entries c.self.inside.files.entries) c.args.file.now c.args.key.now
    (sym (c.in_default.ensures.value ∙ get_entries text nat_list_cmp_total c.self.inside.files.entries c.args.file.now))
    ∙ ap (λ m. map.remove m (c.args.file.now, c.args.key.now)) c.self.view_is

-- the file's rows as they were
found : (c : goal.Else-is_empty) → map.get (map.from_entries {R = text} c.self.inside.files.entries) c.args.file.now ≡ Some c.in-Some.rows.now
found c = sym (c.in-Some.ensures.value ∙ get_entries text nat_list_cmp_total c.self.inside.files.entries c.args.file.now)

found_then : (c : goal.After-drop_file) → map.get (map.from_entries {R = text} c.self.inside.files.entries) c.args.file.now ≡ Some c.in-Some.rows.now
found_then c = sym (c.in-Some.ensures.value ∙ get_entries text nat_list_cmp_total c.self.inside.files.entries c.args.file.now)

-- the files with what is left of this one
left : (c : goal.Else-is_empty) → map.from_entries {R = text} (c.get_mut.follows.lender c.remove-removed.new.self).entries
    ≡ map.insert (map.from_entries c.self.inside.files.entries) c.args.file.now c.remove-removed.new.self
left c =
    entries_given text nat_list_cmp_total exact_bytes c.self.inside.files.entries (c.get_mut.follows.lender c.remove-removed.new.self).entries c.args.file.now c.remove-removed.new.self
    ((c.get_mut.follows.holds c.remove-removed.new.self).3 (subst IsSome c.in-Some.ensures.value refl)).0

gone : (c : goal.After-drop_file) → map.from_entries {R = text} c.drop_file.new.files.entries ≡ map.remove (map.from_entries c.self.inside.files.entries) c.args.file.now
gone c =
    c.drop_file.ensures
    ∙ ap (λ m. map.remove m c.args.file.now)
    (entries_given text nat_list_cmp_total exact_bytes c.self.inside.files.entries (c.get_mut.follows.lender c.remove-removed.new.self).entries c.args.file.now c.remove-removed.new.self
    ((c.get_mut.follows.holds c.remove-removed.new.self).3 (subst IsSome c.in-Some.ensures.value refl)).0)
    ∙ remove-insert (map.from_entries c.self.inside.files.entries) c.args.file.now c.remove-removed.new.self

pub invariant_of-self-then-is_empty : goal.invariant_of-self-then-is_empty
invariant_of-self-then-is_empty c = subst AllFilled (sym (gone c)) (filled_remove (map.from_entries c.self.inside.files.entries) c.args.file.now c.self.invariant)

pub invariant_of-self-else-is_empty : goal.invariant_of-self-else-is_empty
invariant_of-self-else-is_empty c =
    subst AllFilled (sym (left c))
    (filled_insert (map.from_entries c.self.inside.files.entries) c.args.file.now c.remove-removed.new.self c.self.invariant (filled_left c.remove-removed.new.self (sym c.if-is_empty.ensures)))

pub returns-then-is_empty-clause-value : goal.returns-then-is_empty-clause-value
returns-then-is_empty-clause-value c =
    c.remove-removed.ensures.value
    ∙ value_found (map.from_entries c.self.inside.files.entries) c.args.file.now c.args.key.now c.in-Some.rows.now (found_then c)
    ∙ ap (λ m. map.get m (c.args.file.now, c.args.key.now)) c.self.view_is

pub returns-then-is_empty-clause-after : goal.returns-then-is_empty-clause-after
returns-then-is_empty-clause-after c =
    ap joined (gone c)
    ∙ joined_gone (map.from_entries c.self.inside.files.entries) c.args.file.now c.args.key.now c.in-Some.rows.now (found_then c)
    (λ k. ap (λ m. map.get m k) (sym c.remove-removed.ensures.after) ∙ none_in c.remove-removed.new.self (sym c.if-is_empty.ensures) k)
    ∙ ap (λ m. map.remove m (c.args.file.now, c.args.key.now)) c.self.view_is

pub returns-else-is_empty-clause-value : goal.returns-else-is_empty-clause-value
returns-else-is_empty-clause-value c =
    c.remove-removed.ensures.value
    ∙ value_found (map.from_entries c.self.inside.files.entries) c.args.file.now c.args.key.now c.in-Some.rows.now (found c)
    ∙ ap (λ m. map.get m (c.args.file.now, c.args.key.now)) c.self.view_is

pub returns-else-is_empty-clause-after : goal.returns-else-is_empty-clause-after
returns-else-is_empty-clause-after c =
    ap joined (left c ∙ ap (map.insert (map.from_entries c.self.inside.files.entries) c.args.file.now) c.remove-removed.ensures.after)
    ∙ joined_remove (map.from_entries c.self.inside.files.entries) c.args.file.now c.args.key.now c.in-Some.rows.now (found c)
    ∙ ap (λ m. map.remove m (c.args.file.now, c.args.key.now)) c.self.view_is
