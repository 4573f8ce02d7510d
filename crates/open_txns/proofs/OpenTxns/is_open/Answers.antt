use Rattle.std.proofs.Common.{ap, ◌∙◌}
use Rattle.open_txns.specs.Noted.{has_txn}
use Rattle.open_txns.proofs.Marked.{found_open}
use Rattle.open_txns.proofs.OpenTxns.is_open.Goals as goal

pub returns : goal.returns
returns c = c.is_some.ensures ∙ found_open c.args.txn c.self.inside.marks.entries c.place_of.result c.place_of.ensures ∙ ap (λ m. has_txn m c.args.txn) c.self.view_is
