use Rattle.std.proofs.Common.{ap, sym, ◌∙◌}
use Rattle.std.specs.FinSet as set
use Rattle.primary_machine.proofs.TxnSets.{insert_known, remove_inserted, on_ok}
use Rattle.rdf_disk.specs.AnswerLaws.{on_err}
use Rattle.primary_machine.proofs.images.note.Goals as goal

pub returns-then-contains-clause-used : goal.returns-then-contains-clause-used
returns-then-contains-clause-used c = on_ok _ c.set.result (sym (insert_known c.args.used.now c.args.last.txn (sym c.contains.ensures ∙ c.if-contains.true)))

pub returns-then-is_err-clause-same_used : goal.returns-then-is_err-clause-same_used
returns-then-is_err-clause-same_used c =
    on_err c.set-set.result _ (c.remove.ensures ∙ ap (λ s. set.remove s c.args.last.txn) c.in_ok-insert.ensures.ok ∙ remove_inserted c.args.used.now c.args.last.txn (sym c.contains.ensures ∙ c.if-contains.false))
