use Rattle.std.proofs.Common.{rules, Option, refl, sym, subst}
use Rattle.rdf_primary.specs.declared.primary.Primary.{Primary}
use Rattle.primary_node.specs.Lines.{Follows}
use Rattle.primary_node.specs.Calls.{Does}
use Rattle.primary_node.proofs.OffLaws.{off_status}
use Rattle.primary_node.proofs.node.PrimaryNode.status.Goals as goal

pub returns-in-None : goal.returns-in-None
returns-in-None g c = record { performs = λ tells layout a rise some at. subst (λ l. Follows {d = g.D.Disk} g.D.Disk.files layout a l rise c.status_off.result (record c.args.self.now { primary = c.take.new.self })) (sym c.requires.is_status) (off_status g.D.Disk.files layout a rise c.args.self.now (record c.args.self.now { primary = c.take.new.self }) at (sym c.in-None.ensures.value) c.take.ensures.after refl refl c.status_off.result c.status_off.ensures); serves = search rules; sized = search rules; cause = search rules; sound = search rules; fuses = search rules; kept = search rules; kinds = search rules; moved = search rules }

pub returns-in-Some : goal.returns-in-Some
returns-in-Some g c = subst (λ (o : Option (Primary g.row.D.Denot g.D.Disk)). Does g.D.Disk.tells g.D.Disk.files g.D.Disk.counts c.args.line.now c.asked.result (record c.args.self.now { primary = o }) c.asked.new.self) c.in-Some.ensures.value c.asked.ensures
