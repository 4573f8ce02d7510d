use Rattle.std.proofs.Common.{List, ◌++◌, take, sym, subst}
use Rattle.std.proofs.lemmas.Result.{err_from_is_err_and}
use Rattle.rdf_disk.specs.AnswerLaws.{passed_on}
use Rattle.rdf_types.specs.declared.records.Row.{Row}
use Rattle.keyed_blocks.specs.Bases.{block_rows}
use Rattle.keyed_blocks.specs.Indexes.{joined}
use Rattle.keyed_overlay.specs.Merging.{HasPassed}
use Rattle.rdf_volume.proofs.ScanLaws.{joined_next}
use Rattle.rdf_volume.proofs.scan.next_rows.Goals as goal

pub returns-clause-ok : goal.returns-clause-ok
returns-clause-ok g c = λ tells base out payloads rest i has.
    let read = c.in_ok-rows.ensures.ok tells base payloads rest i in
    subst (λ (before : List Row). HasPassed c.args.merge.now.laid before (out ++ c.in_ok-pass.field-0.items) c.pass.new.self.to_come)
    (sym (joined_next c.args.block (block_rows i.blocks) c.in_ok-rows.rows.items read.0))
    (c.in_ok-pass.ensures.goes (joined (take c.args.block (block_rows i.blocks))) out has)

pub returns-in_err-rows-clause-names : goal.returns-in_err-rows-clause-names
returns-in_err-rows-clause-names g c = λ f p is.
    let r = err_from_is_err_and c.from_residual.result c.from_residual.ensures.1 in
    (c.in_err-rows.ensures.damaged f p (passed_on _ _ r.0 _ r.1 r.2 is)).0
