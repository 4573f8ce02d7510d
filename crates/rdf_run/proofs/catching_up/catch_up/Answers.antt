use Rattle.std.proofs.Common.{◌≡◌, ℕ, ◌≤◌, length, refl, sym, ◌∙◌, subst, arith}
use Rattle.rdf_types.specs.declared.layout.Layout.{Layout}
use Rattle.rdf_core.specs.State.{State}
use Rattle.rdf_run.specs.ComingUp.{ComesUp}
use Rattle.rdf_run.proofs.PointsRise.{none_in, one_more, all_risen}
use Rattle.rdf_run.proofs.catching_up.catch_up.Goals as goal

enough : (flags volumes n : ℕ) → flags ≡ volumes → volumes ≤ n → flags ≤ n
enough flags volumes n e l = omega (arith, e, l)

pub loop-number-init : goal.loop-number-init
loop-number-init c = record { risen = sym (none_in c.args.machine.now.state c.args.machine.now.state.session); layout = refl }

pub loop-number-preserved : goal.loop-number-preserved
loop-number-preserved c = record {
  risen = one_more c.args.layout.now c.args.machine.now.state c.args.machine.now.state.session c.loop-number.number c.come_up.new.machine.state refl c.requires.can
      (subst (λ (s : State). ComesUp c.args.layout.now s c.loop-number.number c.come_up.new.machine.state) c.loop-number.invariant.risen
      (subst (λ (layout : Layout). ComesUp layout c.loop-number.machine.state c.loop-number.number c.come_up.new.machine.state) (c.loop-number.invariant.layout ∙ c.requires.same) c.come_up.ensures.comes));
  layout = c.come_up.ensures.layout ∙ c.loop-number.invariant.layout;
}

pub returns-clause-risen : goal.returns-clause-risen
returns-clause-risen c =
    c.loop-number.invariant.risen
    ∙ all_risen c.args.layout.now c.args.machine.now.state c.args.machine.now.state.session c.loop-number.number (enough (length c.args.layout.now.protect) c.args.layout.now.volumes c.loop-number.number c.args.layout.now.a_flag_each c.loop-number-test.false)
