use Rattle.std.proofs.Common.{Bool, ap, ◌∙◌}
use Rattle.rdf_system.specs.declared.session.SessionState.TheVariants.{Open}
use Rattle.rdf_system.proofs.Judging.{may_open}
use Rattle.rdf_system.proofs.system.System.opened_on.Goals as goal

pub returns-else-stopped-clause-open : goal.returns-else-stopped-clause-open
returns-else-stopped-clause-open g c = λ held. may_open c.args.self.now c.in-Open.node (c.in-Open.is ∙ ap (λ (b : Bool). Open c.in-Open.node b) c.if-stopped.false) held
