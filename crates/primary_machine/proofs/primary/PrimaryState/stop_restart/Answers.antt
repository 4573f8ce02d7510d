use Rattle.std.proofs.Common.{ℕ, List, sym, subst, ◌∙◌}
use Rattle.primary_machine.specs.Backouts.{AreOpen}
use Rattle.primary_machine.proofs.OpenLaws.{losers_are_open}
use Rattle.primary_machine.proofs.StopLaws.{restart_first}
use Rattle.primary_machine.proofs.primary.PrimaryState.stop_restart.Goals as goal

pub back_out_first-requires : goal.back_out_first-requires
back_out_first-requires c = subst (λ (ts : List ℕ). AreOpen c.args.self.now.trail ts) (sym (c.deref.ensures.value ∙ c.in_ok-open.ensures)) (losers_are_open c.args.self.now.trail)

pub returns-clause-ok : goal.returns-clause-ok
returns-clause-ok c =
    restart_first c.back_out_first.result c.args.layout.now c.args.self.now c.back_out_first.new.self c.deref.result.now c.args.done (c.deref.ensures.value ∙ c.in_ok-open.ensures) c.back_out_first.ensures.ok
