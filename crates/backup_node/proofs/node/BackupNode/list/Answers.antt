use Rattle.std.proofs.Common.{refl, sym}
use Rattle.plan_lang.specs.declared.lines.Line.TheVariants as lines
use Rattle.rdf_backup.specs.States.{layout_of}
use Rattle.backup_node.proofs.LineLaws.{list_stays}
use Rattle.backup_node.proofs.SettleLaws.{was_up}
use Rattle.backup_node.proofs.KindLaws.{list_replied, settled_still}
use Rattle.backup_node.proofs.DoesLaws.{down_does, settled_line}
use Rattle.backup_node.proofs.node.BackupNode.list.Goals as goal

pub returns-in-None : goal.returns-in-None
returns-in-None g c = down_does g.D.Disk.tells g.D.Disk.files g.D.Disk.counts c.args.self.now c.requires.serves (lines.List c.args.self.now.name c.args.vol) _ _ c.take.ensures.after c.in-None.ensures.value refl (λ layout w b. refl) refl

pub returns-in-Some : goal.returns-in-Some
returns-in-Some g c =
    settled_line g.D.Disk.tells g.D.Disk.files g.D.Disk.counts c.args.self.now c.settled.new.self c.in-Some.backup c.list-outcome.new.self (lines.List c.args.self.now.name c.args.vol) refl c.in-Some.ensures.value c.requires.serves c.list-outcome.result c.settled.result c.settled.ensures.settles c.settled.ensures.sized c.settled.ensures.named
    c.list-outcome.ensures.keeps.cause c.list-outcome.ensures.keeps.usable c.list-outcome.ensures.keeps.named c.list-outcome.ensures.keeps.plain c.list-outcome.ensures.keeps.phase (λ reply p q h. h) c.list-outcome.ensures.keeps.laid (list_replied g.D.Disk.tells g.D.Disk.files g.D.Disk.counts c.args.self.now c.settled.new.self c.in-Some.backup c.list-outcome.new.self c.list-outcome.result c.settled.result c.settled.ensures.settles c.args.vol (was_up c.args.self.now g.D.Disk.tells g.D.Disk.files g.D.Disk.counts c.in-Some.backup (sym c.in-Some.ensures.value) c.requires.serves).sized c.list-outcome.ensures.judged)
    _ c.list-outcome.ensures.sound (settled_still g.D.Disk.tells g.D.Disk.files g.D.Disk.counts c.args.self.now c.settled.new.self c.in-Some.backup c.list-outcome.new.self c.list-outcome.result c.settled.result c.settled.ensures.settles c.settled.ensures.stays c.list-outcome.ensures.refused) refl (λ w s. list_stays (layout_of c.in-Some.backup) w s c.args.self.now.name c.args.vol) (λ t layout w b any u. c.list-outcome.ensures.ends t w c.args.self.now.name u.serves)
