use Rattle.std.proofs.Common.{◌≡◌, refl, ap, sym, subst, ◌∙◌, OnOk, OnErr}
use Rattle.std.specs.Option.{IsSome}
use Rattle.std.specs.FinMap as map
use Rattle.std.specs.Cmp.Lexicographic.{nat_list_cmp_total}
use Rattle.std.proofs.lemmas.Map.Lookups.{exact_bytes}
use Rattle.rdf_types.specs.MapViews.{get_entries, entries_given}
use Rattle.keyed_files.specs.Joined.{Files, joined, AllFilled}
use Rattle.keyed_files.proofs.JoinedLemmas.{text, PutDone, put_in_file, file_started}
use Rattle.keyed_files.proofs.files.KeyedFiles.put.Goals as goal

-- the files as they were
abbrev was : goal.After-drop-file-inside → Files
was c = map.from_entries c.self.inside.files.entries

done : (c : goal.After-drop-file-inside) → PutDone c.put.result (was c) (map.from_entries (c.get_mut.follows.lender c.put.new.self).entries) c.args.row.file c.args.row.key c.args.row.value
done c =
    put_in_file c.put.result (was c) _ c.args.row.file c.args.row.key c.args.row.value c.in-Some.rows.now c.put.new.self
    (sym (c.in-Some.ensures.value ∙ get_entries text nat_list_cmp_total c.self.inside.files.entries c.args.row.file))
    (entries_given text nat_list_cmp_total exact_bytes c.self.inside.files.entries (c.get_mut.follows.lender c.put.new.self).entries c.args.row.file c.put.new.self
    ((c.get_mut.follows.holds c.put.new.self).3 (subst IsSome c.in-Some.ensures.value refl)).0)
    c.put.ensures.ok c.put.ensures.err c.self.invariant

pub invariant_of-self : goal.invariant_of-self
invariant_of-self c = (done c).filled

pub returns-in-Some-clause-ok : goal.returns-in-Some-clause-ok
returns-in-Some-clause-ok c =
    subst (λ m. OnOk c.put.result (joined (map.from_entries (c.get_mut.follows.lender c.put.new.self).entries) ≡ map.insert m (c.args.row.file, c.args.row.key) c.args.row.value)) c.self.view_is (done c).ok

pub returns-in-Some-clause-err : goal.returns-in-Some-clause-err
returns-in-Some-clause-err c =
    subst (λ m. OnErr c.put.result (joined (map.from_entries (c.get_mut.follows.lender c.put.new.self).entries) ≡ m)) c.self.view_is (done c).err

started : (c : goal.Joined-branch-3) → AllFilled (map.from_entries c.insert.new.self.entries)
    × (joined (map.from_entries c.insert.new.self.entries) ≡ map.insert (joined (map.from_entries c.self.inside.files.entries)) (c.args.row.file, c.args.row.key) c.args.row.value)
started c =
    file_started (map.from_entries c.self.inside.files.entries) (map.from_entries c.insert.new.self.entries) c.args.row.file c.args.row.key c.args.row.value c.put-2.new.self
    (sym (c.in_default.ensures.value ∙ get_entries text nat_list_cmp_total c.self.inside.files.entries c.args.row.file))
    (entries_given text nat_list_cmp_total exact_bytes c.get_mut.follows.lender-at-none.entries c.insert.new.self.entries c.args.row.file c.put-2.new.self c.in_ok-insert.ensures.updates.0
    ∙ ap (λ m. map.insert (map.from_entries m.entries) c.args.row.file c.put-2.new.self) c.get_mut.follows.holds-at-none)
    (c.in_ok-put.ensures.ok ∙ ap (λ m. map.insert m c.args.row.key c.args.row.value) c.new-rows.ensures)
    c.self.invariant

pub invariant_of-self-2 : goal.invariant_of-self-2
invariant_of-self-2 c = (started c).0

pub returns-clause-ok : goal.returns-clause-ok
returns-clause-ok c = (started c).1 ∙ ap (λ m. map.insert m (c.args.row.file, c.args.row.key) c.args.row.value) c.self.view_is
