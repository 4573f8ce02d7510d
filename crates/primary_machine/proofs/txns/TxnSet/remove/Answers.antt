use Rattle.std.proofs.Common.{ap, ◌∙◌}
use Rattle.std.specs.FinSet as set
use Rattle.primary_machine.proofs.TxnSets.{keys_removed}
use Rattle.primary_machine.proofs.txns.TxnSet.remove.Goals as goal

pub returns : goal.returns
returns c = keys_removed c.self.inside.txns.keys c.remove.new.self.keys c.args.txn c.remove.ensures.updates.0 ∙ ap (λ s. set.remove s c.args.txn) c.self.view_is
