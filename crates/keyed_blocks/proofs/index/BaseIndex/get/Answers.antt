use Rattle.std.proofs.Common.{◌≡◌, true, ap, sym, subst, ◌∙◌, List, map}
use Rattle.std.proofs.lemmas.Result.{err_from_is_err_and}
use Rattle.std.specs.FinMap.Entries.{find}
use Rattle.rdf_disk.specs.AnswerLaws.{passed_on}
use Rattle.rdf_types.specs.declared.records.Row.{Row}
use Rattle.rdf_types.specs.Places.{row_cmp}
use Rattle.rdf_model.specs.Rows.{row_entry}
use Rattle.keyed_blocks.specs.Bases.{rises}
use Rattle.keyed_blocks.proofs.index.BaseIndex.get.Goals as goal

pub returns-in_default-clause-ok : goal.returns-in_default-clause-ok
returns-in_default-clause-ok g c = λ tells all payloads rest x. sym (c.in_default.ensures.none all payloads x)

pub returns-in_err-rows-clause-damaged : goal.returns-in_err-rows-clause-damaged
returns-in_err-rows-clause-damaged g c = λ f p is.
    let r = err_from_is_err_and c.from_residual.result c.from_residual.ensures.1 in
    c.in_err-rows.ensures.damaged f p (passed_on _ _ r.0 _ r.1 r.2 is)

pub returns-clause-ok : goal.returns-clause-ok
returns-clause-ok g c = λ tells all payloads rest x.
    let has = c.in-Some.ensures.some all payloads x c.in_ok-rows.rows.items (c.in_ok-rows.ensures.ok tells all payloads rest x).0 in
    c.in_ok-copy_of.ensures ∙ c.value_among.ensures (subst (λ (rows : List Row). rises rows ≡ true) (sym c.deref.ensures.value) has.1)
    ∙ ap (λ (rows : List Row). find row_cmp (c.args.file.now, c.args.key.now) (map row_entry rows)) c.deref.ensures.value
    ∙ sym has.0
