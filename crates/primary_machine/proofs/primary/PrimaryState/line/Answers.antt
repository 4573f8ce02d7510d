use Rattle.std.proofs.Common.{sym, subst}
use Rattle.plan_lang.specs.declared.lines.Line.{Line}
use Rattle.rdf_core.specs.Effects.{IsDone}
use Rattle.rdf_core.specs.Primary.{primary_after, primary_refusal, primary_says}
use Rattle.primary_machine.proofs.primary.PrimaryState.line.Goals as goal

pub returns-in-Fuse-clause-ok : goal.returns-in-Fuse-clause-ok
returns-in-Fuse-clause-ok c =
    subst (λ (l : Line). IsDone (primary_refusal c.args.layout.now c.args.self.now l) (λ _. c.args.self.now) (primary_after c.args.self.now l) (primary_says c.args.self.now l) c.fuse.result c.args.self.now) (sym c.in-Fuse.is)
    (c.fuse.ensures c.in-Fuse.calls c.in-Fuse.tear)
