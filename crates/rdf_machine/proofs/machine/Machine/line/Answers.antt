use Rattle.std.proofs.Common.{◌≡◌, true, IfOk, sym, subst}
use Rattle.rdf_core.specs.Allowed.{allowed}
use Rattle.rdf_core.specs.Happens.{Does}
use Rattle.rdf_machine.specs.Machines.{Whole, state_of}
use Rattle.rdf_machine.proofs.FollowLaws.{following}
use Rattle.rdf_machine.proofs.ReachLaws.{line_fitted}
use Rattle.rdf_machine.proofs.machine.Machine.line.Goals as goal

pub line-requires-clause-follow : goal.line-requires-clause-follow
line-requires-clause-follow c = following c.self.inside.layout c.self.inside.parts c.positions_sound.ensures c.primary_proper.ensures c.self.invariant

pub line-requires-clause-allowed : goal.line-requires-clause-allowed
line-requires-clause-allowed c = subst (λ (m : Whole). allowed m.layout m.state.session c.args.line.now ≡ true) (sym c.self.view_is) c.requires

pub invariant_of-self : goal.invariant_of-self
invariant_of-self c =
    line_fitted c.event_goes_on.ensures c.self.inside.layout c.self.inside.parts c.line.new.self c.self.invariant c.line.ensures.kept c.line.result c.args.line.now
    (subst (λ (m : Whole). allowed m.layout m.state.session c.args.line.now ≡ true) (sym c.self.view_is) c.requires) c.line.ensures.ok c.line.ensures.err

pub returns-clause-ok : goal.returns-clause-ok
returns-clause-ok c = subst (λ (m : Whole). IfOk c.line.result (λ reply. Does m.layout m.state c.args.line.now reply (state_of c.line.new.self))) c.self.view_is c.line.ensures.ok
