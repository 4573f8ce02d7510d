use Rattle.std.proofs.Common.{sym, subst}
use Rattle.rdf_types.specs.declared.layout.Layout.{Layout}
use Rattle.rdf_machine.specs.Machines.{AreFitted}
use Rattle.rdf_machine.proofs.ReachLaws.{blank_fitted}
use Rattle.rdf_machine.proofs.machine.Machine.new.Goals as goal

pub invariant_of-result : goal.invariant_of-result
invariant_of-result c = subst (λ (l : Layout). AreFitted l c.in_ok-parts.parts) (sym c.in_ok-layout.ensures) (blank_fitted c.args.layout.now c.in_ok-parts.parts c.in_ok-parts.ensures.blank c.in_ok-parts.ensures.kept)
