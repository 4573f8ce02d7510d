use Rattle.std.proofs.Common.{◌++◌, arith, sym, ap, ◌∙◌, append-nil}
use Rattle.std.proofs.lemmas.List.{nil_from_length}
use Rattle.keyed_overlay.specs.Merging.{passed, behind}
use Rattle.keyed_overlay.proofs.PassLemmas.{passed_block}
use Rattle.keyed_overlay.proofs.merge.Merge.pass.Goals as goal

pub returns-clause-goes : goal.returns-clause-goes
returns-clause-goes c before out so_far =
    let laid = c.args.self.now.laid in
    let now = c.loop-row.self.to_come in
    let nil = nil_from_length c.loop-row.row-iterator.rest.items (omega (arith, c.loop-row.row-iterator.rest.ok.0, (c.in-None.ensures {u = tt}).steps.0)) in
    passed_block laid before out c.args.self.now.to_come c.args.block.items c.loop-row.rows.items now
    (sym (ap (λ rows. c.loop-row.rows.items ++ passed laid now rows) nil ∙ append-nil c.loop-row.rows.items) ∙ c.loop-row.invariant.rows)
    (sym (ap (behind now) nil) ∙ c.loop-row.invariant.to_come)
    so_far
