use Rattle.std.proofs.Common.{◌≡◌, sym, subst}
use Rattle.rdf_core.specs.declared.events.Event.TheVariants as event
use Rattle.rdf_core.specs.Run.{CanMove, after_move}
use Rattle.rdf_machine.specs.Machines.{Whole, state_of}
use Rattle.rdf_machine.proofs.ReachLaws.{halt_fitted}
use Rattle.rdf_machine.proofs.machine.Machine.halt.Goals as goal

pub invariant_of-self : goal.invariant_of-self
invariant_of-self c =
    halt_fitted c.event_goes_on.ensures c.self.inside.layout c.self.inside.parts c.halt.new.self c.self.invariant (c.halt.ensures.kept c.self.inside.layout c.self.invariant.kept) c.args.vol
    (subst (λ (m : Whole). CanMove m.layout m.state (event.Halt c.args.vol)) (sym c.self.view_is) c.requires) c.halt.ensures.halted

pub returns-clause-halted : goal.returns-clause-halted
returns-clause-halted c = subst (λ (m : Whole). state_of c.halt.new.self ≡ after_move 1 m.state (event.Halt c.args.vol)) c.self.view_is c.halt.ensures.halted
