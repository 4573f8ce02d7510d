use Rattle.std.proofs.Common.{ap}
use Rattle.rdf_core.specs.Primary.{Primary}
use Rattle.primary_machine.proofs.OpenLaws.{open_on}
use Rattle.primary_machine.proofs.primary.PrimaryState.open.Goals as goal

pub returns : goal.returns
returns c = let a = c.self.inside in open_on c.open.result a.trail.items c.args.self.now.trail a.founds (ap (λ (p : Primary). p.trail) c.self.view_is) c.self.invariant.found c.open.ensures
