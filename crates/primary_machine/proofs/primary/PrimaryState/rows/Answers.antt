use Rattle.std.proofs.Common.{ap}
use Rattle.rdf_core.specs.Primary.{Primary}
use Rattle.primary_machine.proofs.RowsLaws.{made_rows}
use Rattle.primary_machine.proofs.primary.PrimaryState.rows.Goals as goal

pub returns : goal.returns
returns c =
    let a = c.self.inside in
    made_rows c.rows.result c.args.vol a.trail.items c.args.self.now.trail a.places a.used (ap (λ (p : Primary). p.trail) c.self.view_is) c.self.invariant.kept c.rows.ensures
