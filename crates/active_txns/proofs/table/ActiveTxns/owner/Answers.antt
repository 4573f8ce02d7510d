use Rattle.std.proofs.Common.{◌∙◌}
use Rattle.active_txns.proofs.table.ActiveTxns.owner.Goals as goal

pub returns : goal.returns
returns c = λ trail active h. c.owner.ensures ∙ h.locked c.args.key.now
