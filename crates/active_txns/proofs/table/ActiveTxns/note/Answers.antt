use Rattle.active_txns.proofs.TellsLemmas.{noted_step, noted_tells, not_err}
use Rattle.active_txns.proofs.table.ActiveTxns.note.Goals as goal

pub returns-clause-step : goal.returns-clause-step
returns-clause-step c =
    noted_step c.note.result c.args.self.now _ c.args.txn c.args.key c.args.before c.note.ensures.ok c.in_ok-insert.ensures.updates.0
    (not_err c.try_lock.result c.if-is_err.ensures.value c.try_lock.ensures.ok) (not_err c.try_lock.result c.if-is_err.ensures.value c.try_lock.ensures.«open»)

pub returns-clause-tells : goal.returns-clause-tells
returns-clause-tells c = noted_tells c.note.result c.args.self.now _ c.args.txn c.args.key c.args.before (returns-clause-step c)
