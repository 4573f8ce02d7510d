use Rattle.std.proofs.Common.{◌∙◌, ap, min}
use Rattle.active_txns.proofs.CountLemmas.{as_many}
use Rattle.active_txns.proofs.table.ActiveTxns.count.Goals as goal

pub returns : goal.returns
returns c = λ trail active h. c.count.ensures ∙ ap (λ n. min n 4294967295) (as_many c.args.self.now.active active h.exact)
