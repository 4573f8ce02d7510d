use Rattle.active_txns.proofs.TellsLemmas.{tells_new}
use Rattle.active_txns.proofs.table.ActiveTxns.new.Goals as goal

pub returns : goal.returns
returns c = tells_new _ c.new.ensures c.new-2.ensures.empty c.new-3.ensures
