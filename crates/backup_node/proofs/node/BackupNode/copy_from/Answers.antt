use Rattle.std.proofs.Common.{inl, refl, sym}
use Rattle.plan_lang.specs.declared.lines.Line.TheVariants as lines
use Rattle.rdf_core.specs.declared.replies.NoWhy.TheVariants as no
use Rattle.rdf_backup.specs.States.{layout_of}
use Rattle.backup_node.proofs.LineLaws.{copy_stays}
use Rattle.backup_node.proofs.LaidLaws.{laid_of}
use Rattle.backup_node.proofs.SettleLaws.{was_up}
use Rattle.backup_node.proofs.CopyLaws.{lead_down, lead_up}
use Rattle.backup_node.proofs.KindLaws.{copy_judged, copy_replied, down_copied, lead_copied, settled_still}
use Rattle.backup_node.proofs.DoesLaws.{down_does, refuse_does, settled_line}
use Rattle.backup_node.proofs.LaidLaws.{laid_alike}
use Rattle.backup_node.proofs.node.BackupNode.copy_from.Goals as goal

pub returns-in-None-clause-does : goal.returns-in-None-clause-does
returns-in-None-clause-does g c = λ from. down_does g.D.Disk.tells g.D.Disk.files g.D.Disk.counts c.args.self.now c.requires.serves (lines.CopyAudit c.args.self.now.name from) _ _ c.take.ensures.after c.in-None.ensures.value refl (λ layout w b. refl) refl

pub returns-in-None-backup-clause-does : goal.returns-in-None-backup-clause-does
returns-in-None-backup-clause-does g c = λ from. refuse_does g.D.Disk.tells g.D.Disk.files g.D.Disk.counts c.args.self.now c.requires.serves (lines.CopyAudit c.args.self.now.name from) _ c.in-Some.backup c.in-Some.ensures.value refl no.Down (inl (inl refl))
    (λ layout w b lead u. lead_down g.D.Disk.files layout w c.args.lead.now lead c.in-None-backup.is b c.in-Some.backup c.args.self.now.name from u)

pub copy_from-outcome-requires-clause-same : goal.copy_from-outcome-requires-clause-same
copy_from-outcome-requires-clause-same g c =
    let s = c.requires.same in
    laid_of (layout_of c.in-Some.backup) c.args.lead.now c.in-Some-backup.other c.in-Some-backup.is (laid_alike s.0 c.args.self.now c.args.lead.now c.in-Some.backup (sym c.in-Some.ensures.value) s.1.0 s.1.1)

pub copy_from-outcome-requires-clause-lead : goal.copy_from-outcome-requires-clause-lead
copy_from-outcome-requires-clause-lead g c = (was_up c.args.lead.now g.D.Disk.tells g.D.Disk.files g.D.Disk.counts c.in-Some-backup.other c.in-Some-backup.is c.requires.lead).runs

pub returns-in-Some-backup-clause-does : goal.returns-in-Some-backup-clause-does
returns-in-Some-backup-clause-does g c = λ from.
    settled_line g.D.Disk.tells g.D.Disk.files g.D.Disk.counts c.args.self.now c.settled.new.self c.in-Some.backup c.copy_from-outcome.new.self (lines.CopyAudit c.args.self.now.name from) refl c.in-Some.ensures.value c.requires.serves c.copy_from-outcome.result c.settled.result c.settled.ensures.settles c.settled.ensures.sized c.settled.ensures.named
    c.copy_from-outcome.ensures.keeps.cause c.copy_from-outcome.ensures.keeps.usable c.copy_from-outcome.ensures.keeps.named c.copy_from-outcome.ensures.keeps.plain c.copy_from-outcome.ensures.keeps.phase (λ reply p q h. h) c.copy_from-outcome.ensures.keeps.laid (copy_replied g.D.Disk.tells g.D.Disk.files g.D.Disk.counts c.args.self.now c.settled.new.self c.in-Some.backup c.copy_from-outcome.new.self c.copy_from-outcome.result c.settled.result c.settled.ensures.settles from c.in-Some-backup.other c.copy_from-outcome.ensures.judged)
    _ (λ t. c.copy_from-outcome.ensures.sound) (settled_still g.D.Disk.tells g.D.Disk.files g.D.Disk.counts c.args.self.now c.settled.new.self c.in-Some.backup c.copy_from-outcome.new.self c.copy_from-outcome.result c.settled.result c.settled.ensures.settles c.settled.ensures.stays c.copy_from-outcome.ensures.refused) refl (λ w s. copy_stays (layout_of c.in-Some.backup) w s c.args.self.now.name from)
    (λ t layout w b lead u. let q = lead_up g.D.Disk.files layout w c.args.lead.now lead c.in-Some-backup.other c.in-Some-backup.is in c.copy_from-outcome.ensures.ends t w c.args.self.now.name from w.lead.stops q.state q.serves u.serves)

pub returns-in-None-clause-judged : goal.returns-in-None-clause-judged
returns-in-None-clause-judged g c = λ from. down_copied c.args.self.now c.in-None.ensures.value from c.args.lead.now

pub returns-in-None-backup-clause-judged : goal.returns-in-None-backup-clause-judged
returns-in-None-backup-clause-judged g c = λ from. lead_copied c.args.self.now c.in-Some.backup c.in-Some.ensures.value from c.args.lead.now c.in-None-backup.is

pub returns-in-Some-backup-clause-judged : goal.returns-in-Some-backup-clause-judged
returns-in-Some-backup-clause-judged g c = λ from. copy_judged g.D.Disk.tells g.D.Disk.files g.D.Disk.counts c.args.self.now c.settled.new.self c.in-Some.backup c.copy_from-outcome.new.self c.in-Some.ensures.value c.copy_from-outcome.result c.settled.result c.settled.ensures.settles from c.args.lead.now c.in-Some-backup.other c.in-Some-backup.is c.copy_from-outcome.ensures.judged
