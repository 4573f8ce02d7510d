use Rattle.std.proofs.Common.{rules, true, refl, sym, ap}
use Rattle.rdf_core.specs.declared.replies.NoWhy.TheVariants as no
use Rattle.rdf_core.specs.Effects.{when}
use Rattle.rdf_core.specs.Primary.{is_lost}
use Rattle.plan_lang.specs.declared.lines.Line.TheVariants as lines
use Rattle.primary_node.proofs.NodeLaws.{refused_follows}
use Rattle.primary_node.proofs.CallLaws.{refused_does, cut_does}
use Rattle.primary_node.proofs.OffLaws.{lose_done, off_lost, lost_at, serves_up}
use Rattle.primary_node.proofs.MovedLaws.{stands_off}
use Rattle.primary_node.proofs.node.PrimaryNode.lose.Goals as goal

pub returns-then-self : goal.returns-then-self
returns-then-self g c = refused_does g.D.Disk.tells g.D.Disk.files g.D.Disk.counts c.args.self.now lines.Lose no.Lost c.requires.serves refl
    (λ tells layout a rise some at. refused_follows g.D.Disk.files layout a lines.Lose rise no.Lost c.args.self.now
    (ap (λ s. when (is_lost s) no.Lost) (lost_at c.args.self.now g.D.Disk.tells g.D.Disk.files g.D.Disk.counts layout a c.if-self.true c.requires.serves at)) at) (search rules)

pub returns-in-Some : goal.returns-in-Some
returns-in-Some g c =
    let on = sym c.in-Some.ensures.value in
    let s = serves_up c.args.self.now g.D.Disk.tells g.D.Disk.files g.D.Disk.counts c.in-Some.primary on c.requires.serves in
    cut_does g.D.Disk.tells g.D.Disk.files g.D.Disk.counts c.args.self.now (record c.fall.new.self { lost = true }) lines.Lose c.in-Some.primary on c.fall.ensures.off c.fall.ensures.volumes c.fall.ensures.cut c.requires.serves refl
    (λ tells layout a rise some at. lose_done g.D.Disk.files layout a rise c.args.self.now (record c.fall.new.self { lost = true }) at c.in-Some.primary on c.fall.ensures.off g.D.Disk.tells g.D.Disk.counts tells (s.0.runs tells) c.fall.ensures.cut refl) (search rules) (stands_off (record c.fall.new.self { lost = true }) c.fall.ensures.off true refl)

pub returns-in-None : goal.returns-in-None
returns-in-None g c = record { performs = λ tells layout a rise some at. off_lost g.D.Disk.files layout a rise c.args.self.now _ at (sym c.in-None.ensures.value) c.if-self.false c.take.ensures.after refl refl; serves = search rules; sized = search rules; cause = search rules; sound = search rules; fuses = search rules; kept = search rules; kinds = search rules; moved = stands_off (record c.args.self.now { primary = c.take.new.self; lost = true }) c.take.ensures.after true refl }
