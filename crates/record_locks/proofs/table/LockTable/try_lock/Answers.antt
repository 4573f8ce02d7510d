use Rattle.std.proofs.Common.{Some, ap, sym, ◌∙◌}
use Rattle.std.specs.FinMap as map
use Rattle.std.proofs.lemmas.Map.Views.{exact_unsigned_eq}
use Rattle.record_locks.proofs.AgreeLemmas.{locked_same}
use Rattle.record_locks.proofs.table.LockTable.try_lock.Goals as goal

pub returns-in-Some-clause-ok : goal.returns-in-Some-clause-ok
returns-in-Some-clause-ok c =
    locked_same c.args.self.now c.args.key.now c.args.txn
    (sym (ap (λ m. map.get m c.args.key.now) c.self.view_is) ∙ sym c.get.ensures ∙ c.in-Some.is ∙ ap Some (exact_unsigned_eq c.in-Some.by c.args.txn (sym c.if-eq.ensures)))
