use Rattle.std.proofs.Common.{inl, refl, ◌∙◌, Some}
use Rattle.plan_lang.specs.declared.lines.Line.TheVariants as lines
use Rattle.rdf_core.specs.declared.replies.NoWhy.TheVariants as no
use Rattle.image_disks.specs.Values.{received}
use Rattle.rdf_backup.specs.States.{layout_of, value_of}
use Rattle.backup_node.proofs.LineLaws.{takeover_stays, not_lost}
use Rattle.backup_node.proofs.NodeLaws.{is_up}
use Rattle.backup_node.proofs.SettleLaws.{settled_ends}
use Rattle.backup_node.proofs.KindLaws.{down_taken, kept_taken, number_done, settled_still, takeover_judged, takeover_replied}
use Rattle.backup_node.proofs.DoesLaws.{at_state, down_does, refuse_does, beside_at}
use Rattle.backup_node.proofs.node.BackupNode.takeover.Goals as goal
use Rattle.backup_node.proofs.MovedLaws.{taken_moved}

pub returns-in-None-clause-does : goal.returns-in-None-clause-does
returns-in-None-clause-does g c = at_state g.D.Disk.tells g.D.Disk.files g.D.Disk.counts (down_does g.D.Disk.tells g.D.Disk.files g.D.Disk.counts c.args.self.now c.requires.serves (lines.Takeover c.args.self.now.name) _ _ c.take.ensures.after c.in-None.ensures.value refl (λ layout w b. refl) refl)

pub returns-then-not-lost-clause-does : goal.returns-then-not-lost-clause-does
returns-then-not-lost-clause-does g c = at_state g.D.Disk.tells g.D.Disk.files g.D.Disk.counts (refuse_does g.D.Disk.tells g.D.Disk.files g.D.Disk.counts c.args.self.now c.requires.serves (lines.Takeover c.args.self.now.name) _ c.in-Some.backup c.in-Some.ensures.value refl no.PrimaryUp (inl (inl refl))
    (λ layout w b lost u. not_lost layout w b c.args.self.now.name (is_up g.D.Disk.files layout w.trail b c.in-Some.backup u) (lost ∙ c.if-not-lost.true)))

pub returns-else-not-lost-clause-does : goal.returns-else-not-lost-clause-does
returns-else-not-lost-clause-does g c =
    beside_at g.D.Disk.tells g.D.Disk.files g.D.Disk.counts c.args.self.now c.settled.new.self c.in-Some.backup c.takeover-outcome.new.self (lines.Takeover c.args.self.now.name) refl refl c.in-Some.ensures.value c.requires.serves c.takeover-outcome.result c.settled.result c.settled.ensures.settles c.settled.ensures.sized c.settled.ensures.named
    c.takeover-outcome.ensures.keeps (taken_moved c.takeover-outcome.result (received (value_of c.in-Some.backup)) (Some (value_of c.in-Some.backup).phase) (value_of c.takeover-outcome.new.self).phase c.takeover-outcome.ensures.keeps.taken c.takeover-outcome.ensures.told) (takeover_replied g.D.Disk.tells g.D.Disk.files g.D.Disk.counts c.args.self.now c.settled.new.self c.in-Some.backup c.takeover-outcome.new.self c.takeover-outcome.result c.settled.result c.settled.ensures.settles c.takeover-outcome.ensures.told)
    (settled_still g.D.Disk.tells g.D.Disk.files g.D.Disk.counts c.args.self.now c.settled.new.self c.in-Some.backup c.takeover-outcome.new.self c.takeover-outcome.result c.settled.result c.settled.ensures.settles c.settled.ensures.stays (λ h. absurd (number_done c.takeover-outcome.result (received (value_of c.in-Some.backup)) c.takeover-outcome.ensures.told h)))
    _ c.takeover-outcome.ensures.sound (λ t layout w b rise some lost u.
    settled_ends g.D.Disk.tells g.D.Disk.files g.D.Disk.counts c.args.self.now c.settled.new.self c.in-Some.backup c.takeover-outcome.new.self t layout w b (lines.Takeover c.args.self.now.name) rise some u refl (λ s. takeover_stays (layout_of c.in-Some.backup) w s c.args.self.now.name)
    c.takeover-outcome.result c.settled.result c.settled.ensures.settles (c.takeover-outcome.ensures.ends t w c.args.self.now.name (lost ∙ c.if-not-lost.false) u.serves))

pub returns-in-None-clause-judged : goal.returns-in-None-clause-judged
returns-in-None-clause-judged g c = down_taken c.args.self.now c.in-None.ensures.value c.args.lost

pub returns-then-not-lost-clause-judged : goal.returns-then-not-lost-clause-judged
returns-then-not-lost-clause-judged g c = kept_taken c.args.self.now c.in-Some.backup c.in-Some.ensures.value c.args.lost c.if-not-lost.true

pub returns-else-not-lost-clause-judged : goal.returns-else-not-lost-clause-judged
returns-else-not-lost-clause-judged g c = takeover_judged g.D.Disk.tells g.D.Disk.files g.D.Disk.counts c.args.self.now c.settled.new.self c.in-Some.backup c.takeover-outcome.new.self c.in-Some.ensures.value c.takeover-outcome.result c.settled.result c.settled.ensures.settles c.args.lost c.if-not-lost.false c.takeover-outcome.ensures.told
