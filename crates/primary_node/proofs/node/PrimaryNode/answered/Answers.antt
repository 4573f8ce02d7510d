use Rattle.std.proofs.Common.{Option, Ok, refl, sym, ◌∙◌, subst}
use Rattle.rdf_core.specs.declared.replies.Reply.TheVariants.{No}
use Rattle.rdf_primary.specs.declared.primary.Primary.{Primary}
use Rattle.primary_node.specs.Calls.{Does}
use Rattle.primary_node.proofs.CallLaws.{off_by, refused_does}
use Rattle.primary_node.proofs.OffLaws.{off_refuses}
use Rattle.primary_node.proofs.KindLaws.{off_replied}
use Rattle.primary_node.proofs.node.PrimaryNode.answered.Goals as goal

pub returns-in-None : goal.returns-in-None
returns-in-None g c =
    let off = sym c.in-None.ensures.value in
    subst (λ (o : Option (Primary g.row.D.Denot g.D.Disk)). Does g.D.Disk.tells g.D.Disk.files g.D.Disk.counts c.args.line.now (Ok (No c.why_off.result)) c.args.self.now (record c.args.self.now { primary = o })) (off ∙ sym c.take.ensures.after)
    (refused_does g.D.Disk.tells g.D.Disk.files g.D.Disk.counts c.args.self.now c.args.line.now c.why_off.result c.requires.serves (off_by _ c.why_off.result c.why_off.ensures)
    (λ tells layout a rise some at. off_refuses g.D.Disk.files layout a rise c.args.self.now c.args.self.now at off off refl refl c.args.line.now c.why_off.result c.requires.answered c.why_off.ensures)
    (off_replied c.args.self.now c.args.line.now c.why_off.result c.requires.answered off c.why_off.ensures))

pub returns-in-Some : goal.returns-in-Some
returns-in-Some g c = subst (λ (o : Option (Primary g.row.D.Denot g.D.Disk)). Does g.D.Disk.tells g.D.Disk.files g.D.Disk.counts c.args.line.now c.asked.result (record c.args.self.now { primary = o }) c.asked.new.self) c.in-Some.ensures.value c.asked.ensures
