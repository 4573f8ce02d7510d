use Rattle.std.proofs.Common.{rules, ◌<◌, Option, refl, ◌∙◌, subst, arith}
use Rattle.plan_lang.specs.declared.lines.Line.TheVariants as lines
use Rattle.rdf_types.specs.declared.records.Node.TheVariants.{A}
use Rattle.rdf_core.specs.declared.replies.NoWhy.TheVariants as no
use Rattle.rdf_primary.specs.declared.primary.Primary.{Primary}
use Rattle.primary_node.specs.Calls.{Does}
use Rattle.primary_node.proofs.CallLaws.{refused_does}
use Rattle.primary_node.proofs.FuseLaws.{fuse_lost, fuse_beyond}
use Rattle.primary_node.proofs.node.PrimaryNode.fuse.Goals as goal

pub returns-then-self : goal.returns-then-self
returns-then-self g c = refused_does g.D.Disk.tells g.D.Disk.files g.D.Disk.counts c.args.self.now (lines.Fuse A c.args.disk c.args.calls c.args.tear) no.Lost c.requires.serves refl
    (λ tells layout a rise some at. fuse_lost g.D.Disk.tells g.D.Disk.files g.D.Disk.counts layout a rise c.args.disk c.args.calls c.args.tear c.args.self.now c.requires.serves at c.if-self.true) (search rules)

pub returns-then-self-disk : goal.returns-then-self-disk
returns-then-self-disk g c =
    let beyond : c.args.self.now.volumes < c.args.disk = omega (arith, c.if-self-disk.true) in
    refused_does g.D.Disk.tells g.D.Disk.files g.D.Disk.counts c.args.self.now (lines.Fuse A c.args.disk c.args.calls c.args.tear) no.Volume c.requires.serves refl
    (λ tells layout a rise some at. fuse_beyond g.D.Disk.tells g.D.Disk.files g.D.Disk.counts layout a rise c.args.disk c.args.calls c.args.tear c.args.self.now c.requires.serves at c.if-self.false beyond) (search rules)

pub returns-in-Some : goal.returns-in-Some
returns-in-Some g c = subst (λ (o : Option (Primary g.row.D.Denot g.D.Disk)). Does g.D.Disk.tells g.D.Disk.files g.D.Disk.counts (lines.Fuse A c.args.disk c.args.calls c.args.tear) c.fuse_up.result (record c.args.self.now { primary = o }) c.fuse_up.new.self)
    c.in-Some.ensures.value c.fuse_up.ensures

pub returns-in-None : goal.returns-in-None
returns-in-None g c = subst (λ (o : Option (Primary g.row.D.Denot g.D.Disk)). Does g.D.Disk.tells g.D.Disk.files g.D.Disk.counts (lines.Fuse A c.args.disk c.args.calls c.args.tear) c.fuse_off.result (record c.args.self.now { primary = o }) c.fuse_off.new.self)
    (c.take.ensures.after ∙ c.in-None.ensures.value) c.fuse_off.ensures
