use Rattle.std.proofs.Common.{rules, false, Option, Ok, refl, sym, ◌∙◌, subst}
use Rattle.rdf_types.specs.declared.records.Node.TheVariants.{A}
use Rattle.plan_lang.specs.declared.lines.Line.TheVariants as lines
use Rattle.rdf_core.specs.declared.replies.Reply.TheVariants.{No}
use Rattle.rdf_primary.specs.declared.primary.Primary.{Primary}
use Rattle.primary_node.specs.Calls.{Does}
use Rattle.primary_node.proofs.CallLaws.{off_by, refused_does, cut_does}
use Rattle.primary_node.proofs.OffLaws.{off_no_cut, cut_done, serves_up}
use Rattle.primary_node.proofs.MovedLaws.{stands_off}
use Rattle.primary_node.proofs.node.PrimaryNode.cut.Goals as goal

pub returns-in-None : goal.returns-in-None
returns-in-None g c =
    let off = sym c.in-None.ensures.value in
    subst (λ (o : Option (Primary g.row.D.Denot g.D.Disk)). Does g.D.Disk.tells g.D.Disk.files g.D.Disk.counts (lines.Cut A) (Ok (No c.why_off.result)) c.args.self.now (record c.args.self.now { primary = o })) (off ∙ sym c.take.ensures.after)
    (refused_does g.D.Disk.tells g.D.Disk.files g.D.Disk.counts c.args.self.now (lines.Cut A) c.why_off.result c.requires.serves (off_by _ c.why_off.result c.why_off.ensures)
    (λ tells layout a rise some at. off_no_cut g.D.Disk.files layout a rise c.args.self.now c.args.self.now at off off refl refl c.why_off.result c.why_off.ensures) (search rules))

pub returns-in-Some : goal.returns-in-Some
returns-in-Some g c =
    let on = sym c.in-Some.ensures.value in
    let s = serves_up c.args.self.now g.D.Disk.tells g.D.Disk.files g.D.Disk.counts c.in-Some.primary on c.requires.serves in
    cut_does g.D.Disk.tells g.D.Disk.files g.D.Disk.counts c.args.self.now c.fall.new.self (lines.Cut A) c.in-Some.primary on c.fall.ensures.off c.fall.ensures.volumes c.fall.ensures.cut c.requires.serves refl
    (λ tells layout a rise some at. cut_done g.D.Disk.files layout a rise c.args.self.now c.fall.new.self at c.in-Some.primary on c.fall.ensures.off g.D.Disk.tells g.D.Disk.counts tells (s.0.runs tells) c.fall.ensures.cut (c.fall.ensures.lost ∙ s.1)) (search rules) (stands_off c.fall.new.self c.fall.ensures.off false (c.fall.ensures.lost ∙ s.1))
