use Rattle.std.proofs.Common.{◌∙◌}
use Rattle.active_txns.proofs.table.ActiveTxns.is_active.Goals as goal

pub returns : goal.returns
returns c = λ trail active h. c.has.ensures ∙ h.exact c.args.txn
