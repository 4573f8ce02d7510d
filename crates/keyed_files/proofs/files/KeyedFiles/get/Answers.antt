use Rattle.std.proofs.Common.{ap, sym, ◌∙◌}
use Rattle.std.specs.FinMap as map
use Rattle.std.specs.Cmp.Lexicographic.{nat_list_cmp_total}
use Rattle.rdf_types.specs.MapViews.{get_entries}
use Rattle.keyed_files.proofs.JoinedLemmas.{text, value_found, no_value_found}
use Rattle.keyed_files.proofs.files.KeyedFiles.get.Goals as goal

pub returns-in-Some : goal.returns-in-Some
returns-in-Some c =
    c.get-in-Some.ensures
    ∙ value_found (map.from_entries c.self.inside.files.entries) c.args.file.now c.args.key.now c.in-Some.rows.now
    (sym (c.in-Some.ensures.value ∙ get_entries text nat_list_cmp_total c.self.inside.files.entries c.args.file.now))
    ∙ ap (λ m. map.get m (c.args.file.now, c.args.key.now)) c.self.view_is

pub returns-in-None : goal.returns-in-None
returns-in-None c =
    no_value_found (map.from_entries c.self.inside.files.entries) c.args.file.now c.args.key.now
    (sym (c.in-None.ensures.value ∙ get_entries text nat_list_cmp_total c.self.inside.files.entries c.args.file.now))
    ∙ ap (λ m. map.get m (c.args.file.now, c.args.key.now)) c.self.view_is
