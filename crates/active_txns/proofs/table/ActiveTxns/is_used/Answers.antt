use Rattle.std.proofs.Common.{◌∙◌}
use Rattle.active_txns.proofs.table.ActiveTxns.is_used.Goals as goal

pub returns : goal.returns
returns c = λ trail active h. c.contains.ensures ∙ h.used c.args.txn
