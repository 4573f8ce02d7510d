use Rattle.std.proofs.Common.{◌≡◌, inl, refl, sym, ◌∙◌}
use Rattle.plan_lang.specs.declared.lines.Line.TheVariants as lines
use Rattle.rdf_core.specs.declared.replies.Reply.TheVariants.{NodeDown}
use Rattle.rdf_core.specs.Backup.{backup_status}
use Rattle.backup_node.proofs.LineLaws.{when_down}
use Rattle.backup_node.proofs.NodeLaws.{off_at, done_follows}
use Rattle.backup_node.proofs.KindLaws.{status_replied}
use Rattle.backup_node.proofs.DoesLaws.{down_no, still_does, answer_does}
use Rattle.backup_node.proofs.node.BackupNode.status.Goals as goal
use Rattle.backup_node.specs.Moves.{phase_at}
use Rattle.backup_node.proofs.MovedLaws.{stays_so}

pub returns-in-None : goal.returns-in-None
returns-in-None g c = still_does g.D.Disk.tells g.D.Disk.files g.D.Disk.counts c.args.self.now c.requires.serves (lines.Status c.args.self.now.name) _ NodeDown _ (c.take.ensures.after ∙ c.in-None.ensures.value) (down_no c.args.self.now.name) refl refl (status_replied c.args.self.now c.in-None.ensures.value)
    (λ t layout w b rise some any at. done_follows g.D.Disk.files layout w c.args.self.now.name b (lines.Status c.args.self.now.name) rise NodeDown c.args.self.now refl
    (when_down (λ s. NodeDown ≡ backup_status layout w.trail s) b (off_at g.D.Disk.files layout w.trail b c.args.self.now (sym c.in-None.ensures.value) at).down refl) at refl)

pub returns-in-Some : goal.returns-in-Some
returns-in-Some g c = answer_does g.D.Disk.tells g.D.Disk.files g.D.Disk.counts c.args.self.now c.requires.serves (lines.Status c.args.self.now.name) _ c.in-Some.backup c.in-Some.ensures.value refl c.status-reply.result (c.status-reply.ensures.plain c.args.self.now.name) (stays_so c.status-reply.result (phase_at c.args.self.now) (phase_at c.args.self.now) c.status-reply.ensures.plain refl) (inl c.status-reply.ensures.said)
    (λ t layout w b any u. c.status-reply.ensures.goes t w c.args.self.now.name u.serves)
