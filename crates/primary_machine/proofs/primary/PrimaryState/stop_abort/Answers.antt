use Rattle.std.proofs.Common.{sym, ◌∙◌}
use Rattle.primary_machine.proofs.OpenLaws.{one_open}
use Rattle.primary_machine.proofs.StopLaws.{none_is, abort_on}
use Rattle.primary_machine.proofs.primary.PrimaryState.stop_abort.Goals as goal

pub back_out_first-requires : goal.back_out_first-requires
back_out_first-requires c =
    one_open c.args.self.now.trail c.args.txn (sym (c.is_open.ensures (sym c.idle.ensures ∙ none_is c.idle.result (sym c.is_some.ensures ∙ c.if-is_some.false))) ∙ c.if-not-is_open.false)

pub returns-clause-ok : goal.returns-clause-ok
returns-clause-ok c =
    abort_on c.back_out_first.result c.args.layout.now c.args.self.now c.back_out_first.new.self c.args.txn c.args.done
    (sym c.idle.ensures ∙ none_is c.idle.result (sym c.is_some.ensures ∙ c.if-is_some.false)) c.back_out_first.ensures.ok
