use Rattle.std.proofs.Common.{refl}
use Rattle.active_txns.proofs.TellsLemmas.{began}
use Rattle.active_txns.proofs.table.ActiveTxns.begin.Goals as goal

pub returns-clause-tells : goal.returns-clause-tells
returns-clause-tells c = began c.begin.result c.args.self.now _ c.args.txn c.begin.ensures.ok refl refl
