use Rattle.std.proofs.Common.{IfOk, sym, subst}
use Rattle.rdf_core.specs.Happens.{CanStop, Stops}
use Rattle.rdf_machine.specs.Machines.{Whole, state_of}
use Rattle.rdf_machine.proofs.FollowLaws.{following}
use Rattle.rdf_machine.proofs.ReachLaws.{stop_fitted}
use Rattle.rdf_machine.proofs.machine.Machine.stop.Goals as goal

pub stop-requires-clause-follow : goal.stop-requires-clause-follow
stop-requires-clause-follow c = following c.self.inside.layout c.self.inside.parts c.positions_sound.ensures c.primary_proper.ensures c.self.invariant

pub stop-requires-clause-can : goal.stop-requires-clause-can
stop-requires-clause-can c = subst (λ (m : Whole). CanStop m.layout m.state c.args.node c.args.line.now c.args.done) (sym c.self.view_is) c.requires

pub invariant_of-self : goal.invariant_of-self
invariant_of-self c =
    stop_fitted c.event_goes_on.ensures c.self.inside.layout c.self.inside.parts c.stop.new.self c.self.invariant c.stop.ensures.kept c.stop.result c.args.node c.args.line.now c.args.done
    (subst (λ (m : Whole). CanStop m.layout m.state c.args.node c.args.line.now c.args.done) (sym c.self.view_is) c.requires) c.stop.ensures.ok c.stop.ensures.err

pub returns-clause-ok : goal.returns-clause-ok
returns-clause-ok c = subst (λ (m : Whole). IfOk c.stop.result (λ reply. Stops m.layout m.state c.args.node c.args.line.now c.args.done reply (state_of c.stop.new.self))) c.self.view_is c.stop.ensures.ok
