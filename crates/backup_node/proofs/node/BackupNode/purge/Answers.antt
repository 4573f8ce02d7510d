use Rattle.std.proofs.Common.{refl, sym, ap, ◌∙◌}
use Rattle.rdf_types.specs.declared.layout.Layout.{Layout}
use Rattle.rdf_core.specs.Backup.{Backup as State, points_in}
use Rattle.plan_lang.specs.declared.lines.Line.TheVariants as lines
use Rattle.rdf_backup.specs.States.{layout_of, state_of}
use Rattle.backup_node.specs.Lines.{WithPoints}
use Rattle.backup_node.proofs.LineLaws.{purge_stays}
use Rattle.backup_node.proofs.KindLaws.{purge_replied, settled_still}
use Rattle.backup_node.proofs.DoesLaws.{down_does, settled_line}
use Rattle.backup_node.proofs.node.BackupNode.purge.Goals as goal

pub returns-in-None : goal.returns-in-None
returns-in-None g c = down_does g.D.Disk.tells g.D.Disk.files g.D.Disk.counts c.args.self.now c.requires.serves (lines.Purge c.args.self.now.name) _ _ c.take.ensures.after c.in-None.ensures.value refl (λ layout w b. refl) refl

pub returns-in-Some : goal.returns-in-Some
returns-in-Some g c =
    settled_line g.D.Disk.tells g.D.Disk.files g.D.Disk.counts c.args.self.now c.settled.new.self c.in-Some.backup c.purge-outcome.new.self (lines.Purge c.args.self.now.name) refl c.in-Some.ensures.value c.requires.serves c.purge-outcome.result c.settled.result c.settled.ensures.settles c.settled.ensures.sized c.settled.ensures.named
    c.purge-outcome.ensures.keeps.cause c.purge-outcome.ensures.keeps.usable c.purge-outcome.ensures.keeps.named c.purge-outcome.ensures.keeps.plain c.purge-outcome.ensures.keeps.phase (λ reply p q h. h) c.purge-outcome.ensures.keeps.laid (purge_replied g.D.Disk.tells g.D.Disk.files g.D.Disk.counts c.args.self.now c.settled.new.self c.in-Some.backup c.purge-outcome.new.self c.purge-outcome.result c.settled.result c.settled.ensures.settles c.purge-outcome.ensures.judged)
    WithPoints (λ t. c.purge-outcome.ensures.sound) (settled_still g.D.Disk.tells g.D.Disk.files g.D.Disk.counts c.args.self.now c.settled.new.self c.in-Some.backup c.purge-outcome.new.self c.purge-outcome.result c.settled.result c.settled.ensures.settles c.settled.ensures.stays c.purge-outcome.ensures.refused) refl (λ w s. purge_stays (layout_of c.in-Some.backup) w s c.args.self.now.name) (λ t layout w b points u. c.purge-outcome.ensures.ends t w c.args.self.now.name
    (points ∙ ap (λ (s : State). points_in layout w.trail s.volumes) u.state ∙ ap (λ (y : Layout). points_in y w.trail (state_of 0 c.in-Some.backup).volumes) (sym u.laid)) u.serves)
