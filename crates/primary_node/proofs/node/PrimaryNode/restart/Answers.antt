use Rattle.std.proofs.Common.{rules, refl, ◌∙◌, sym}
use Rattle.rdf_types.specs.declared.records.Node.TheVariants.{A}
use Rattle.plan_lang.specs.declared.lines.Line.TheVariants as lines
use Rattle.rdf_core.specs.declared.replies.NoWhy.TheVariants as no
use Rattle.primary_node.proofs.CallLaws.{refused_does}
use Rattle.primary_node.proofs.RestartLaws.{restart_lost, restart_up}
use Rattle.primary_node.proofs.node.PrimaryNode.restart.Goals as goal

pub returns-then-self : goal.returns-then-self
returns-then-self g c = refused_does g.D.Disk.tells g.D.Disk.files g.D.Disk.counts c.args.self.now (lines.Restart A) no.Lost c.requires.serves refl
    (λ tells layout a rise some at. restart_lost g.D.Disk.files layout a rise c.args.self.now at g.D.Disk.tells g.D.Disk.counts c.if-self.true c.requires.serves) (search rules)

pub returns-then-is_some : goal.returns-then-is_some
returns-then-is_some g c = refused_does g.D.Disk.tells g.D.Disk.files g.D.Disk.counts c.args.self.now (lines.Restart A) no.Up c.requires.serves refl
    (λ tells layout a rise some at. restart_up g.D.Disk.files layout a rise c.args.self.now at (sym c.is_some.ensures ∙ c.if-is_some.true)) (search rules)
