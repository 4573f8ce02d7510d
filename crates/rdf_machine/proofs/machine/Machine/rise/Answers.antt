use Rattle.std.proofs.Common.{◌≡◌, sym, subst}
use Rattle.rdf_core.specs.declared.events.Event.TheVariants as event
use Rattle.rdf_core.specs.Run.{CanMove, after_move}
use Rattle.rdf_machine.specs.Machines.{Whole, state_of}
use Rattle.rdf_machine.proofs.ReachLaws.{rise_fitted}
use Rattle.rdf_machine.proofs.machine.Machine.rise.Goals as goal

pub invariant_of-self : goal.invariant_of-self
invariant_of-self c =
    rise_fitted c.event_goes_on.ensures c.self.inside.layout c.self.inside.parts c.rise.new.self c.self.invariant (c.rise.ensures.kept c.self.inside.layout c.self.invariant.kept) c.args.vol c.args.upto
    (subst (λ (m : Whole). CanMove m.layout m.state (event.Apply c.args.vol c.args.upto)) (sym c.self.view_is) c.requires) c.rise.ensures.moved

pub returns-clause-moved : goal.returns-clause-moved
returns-clause-moved c = subst (λ (m : Whole). state_of c.rise.new.self ≡ after_move 1 m.state (event.Apply c.args.vol c.args.upto)) c.self.view_is c.rise.ensures.moved
