use Rattle.std.proofs.Common.{ap, sym, ◌∙◌}
use Rattle.std.specs.Cmp.{nat_cmp_total}
use Rattle.std.specs.FinSet as set
use Rattle.primary_machine.proofs.txns.TxnSet.contains.Goals as goal

pub returns : goal.returns
returns c = c.contains.ensures ∙ sym (set.contains-from_list nat_cmp_total c.self.inside.txns.keys c.args.txn) ∙ ap (λ s. set.contains s c.args.txn) c.self.view_is
