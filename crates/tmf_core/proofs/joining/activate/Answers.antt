use Rattle.std.proofs.Common.{sym, subst, ◌∙◌}
use Rattle.active_txns.specs.Tells.{Tells}
use Rattle.tmf_core.proofs.JoinLaws.{active_already}
use Rattle.tmf_core.proofs.joining.activate.Goals as goal

pub returns-then-is_active : goal.returns-then-is_active
returns-then-is_active c = λ trail active h fresh.
    subst (λ m. Tells c.args.txns.now trail m) (active_already active c.args.txn (sym (c.is_active.ensures trail active h) ∙ c.if-is_active.true)) h
