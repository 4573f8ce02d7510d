use Rattle.std.proofs.Common.{ap, ◌∙◌}
use Rattle.std.specs.FinSet as set
use Rattle.primary_machine.proofs.TxnSets.{keys_inserted}
use Rattle.primary_machine.proofs.txns.TxnSet.insert.Goals as goal

pub returns-clause-ok : goal.returns-clause-ok
returns-clause-ok c = keys_inserted c.self.inside.txns.keys c.insert.new.self.keys c.args.txn c.in_ok-insert.ensures.updates.0 ∙ ap (λ s. set.insert s c.args.txn) c.self.view_is
