use Rattle.std.proofs.Common.{ap, min, sym, ◌∙◌}
use Rattle.std.specs.FinSet as set
use Rattle.primary_machine.proofs.TxnSets.{len_keys}
use Rattle.primary_machine.proofs.txns.TxnSet.count.Goals as goal

pub returns : goal.returns
returns c = c.min.ensures ∙ ap (λ n. min n 4294967295) (c.len.ensures.len ∙ sym (len_keys c.self.inside.txns.keys c.len.ensures.ordered) ∙ ap set.len c.self.view_is)
