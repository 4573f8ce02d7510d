use Rattle.std.proofs.Common.{◌≡◌, OnOk, subst}
use Rattle.std.specs.FinMap as map
use Rattle.active_txns.specs.Founds.{FirstBefore}
use Rattle.active_txns.proofs.active.Active.begin.Goals as goal

pub returns-clause-ok : goal.returns-clause-ok
returns-clause-ok c = subst (λ (f : FirstBefore). OnOk c.put.result (c.put.new.self ≡ map.insert c.args.self.now c.args.txn f)) c.new-found.ensures c.put.ensures.ok
