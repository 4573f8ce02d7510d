use Rattle.std.proofs.Common.{refl}
use Rattle.active_txns.proofs.TellsLemmas.{what_was_found, left_commit, left_abort}
use Rattle.active_txns.proofs.table.ActiveTxns.end.Goals as goal

pub returns-clause-found : goal.returns-clause-found
returns-clause-found c = λ trail active h run runs. what_was_found c.args.self.now trail active c.args.txn c.take-found.result c.take-found.ensures.value h run runs

pub returns-clause-commit : goal.returns-clause-commit
returns-clause-commit c = left_commit c.one_holder.ensures c.args.self.now _ c.args.txn c.take-found.ensures.after refl c.release_all.ensures.freed

pub returns-clause-abort : goal.returns-clause-abort
returns-clause-abort c = left_abort c.one_holder.ensures c.args.self.now _ c.args.txn c.take-found.ensures.after refl c.release_all.ensures.freed
