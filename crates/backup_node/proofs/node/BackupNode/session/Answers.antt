use Rattle.std.proofs.Common.{◌≢◌, refl, sym, subst}
use Rattle.plan_lang.specs.declared.lines.Line.TheVariants as lines
use Rattle.rdf_core.specs.declared.replies.Reply.{Reply}
use Rattle.rdf_core.specs.declared.replies.Reply.TheVariants.{Stopped}
use Rattle.backup_node.specs.Lines.{Follows}
use Rattle.backup_node.proofs.SessionLaws.{session_up, begun_plain}
use Rattle.backup_node.proofs.KindLaws.{begun_replied}
use Rattle.backup_node.proofs.DoesLaws.{down_does, still_does}
use Rattle.backup_node.proofs.node.BackupNode.session.Goals as goal
use Rattle.backup_node.specs.Moves.{phase_at}
use Rattle.backup_node.proofs.MovedLaws.{stays_so}
use Rattle.rdf_backup.specs.Answers.{IsNoStop}

pub returns-in-None : goal.returns-in-None
returns-in-None g c = down_does g.D.Disk.tells g.D.Disk.files g.D.Disk.counts c.args.self.now c.requires.serves (lines.Session c.args.self.now.name) _ c.args.self.now.backup c.in-None.is (sym c.in-None.is) refl (λ layout w b. refl) refl

pub returns-in-Some : goal.returns-in-Some
returns-in-Some g c = still_does g.D.Disk.tells g.D.Disk.files g.D.Disk.counts c.args.self.now c.requires.serves (lines.Session c.args.self.now.name) _ c.begun.result c.args.self.now.backup refl
    (subst (λ (r : Reply). r ≢ Stopped c.args.self.now.name) (sym c.begun.ensures) (begun_plain c.phase.result c.received.result c.args.self.now.name)) refl
    (stays_so c.begun.result (phase_at c.args.self.now) (phase_at c.args.self.now) (subst (λ (r : Reply). IsNoStop r) (sym c.begun.ensures) (begun_plain c.phase.result c.received.result)) refl) (begun_replied c.args.self.now c.in-Some.backup c.in-Some.is c.phase.result c.received.result c.phase.ensures c.received.ensures c.begun.result c.begun.ensures)
    (λ t layout w b rise some any at. subst (λ r. Follows g.D.Disk.files layout w c.args.self.now.name b (lines.Session c.args.self.now.name) rise r c.args.self.now) (sym c.begun.ensures)
    (session_up g.D.Disk.files layout w b rise c.args.self.now at c.in-Some.backup c.in-Some.is c.phase.result c.received.result c.phase.ensures c.received.ensures))
