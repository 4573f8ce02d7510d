use Rattle.std.proofs.Common.{Some, Err, refl}
use Rattle.plan_lang.specs.declared.lines.Line.TheVariants as lines
use Rattle.node_faults.specs.declared.NodeFault.TheVariants.{NoMemory}
use Rattle.backup_node.proofs.DownLaws.{info_breaks}
use Rattle.backup_node.proofs.KindLaws.{info_replied, uninformed}
use Rattle.backup_node.proofs.DoesLaws.{down_does, answer_does, settled_does, same_caused}
use Rattle.backup_node.proofs.node.BackupNode.info.Goals as goal
use Rattle.backup_node.specs.Moves.{phase_at}
use Rattle.backup_node.proofs.MovedLaws.{stays_so}

pub returns-in-None : goal.returns-in-None
returns-in-None g c = down_does g.D.Disk.tells g.D.Disk.files g.D.Disk.counts c.args.self.now c.requires.serves (lines.Info c.args.self.now.name) _ _ c.take.ensures.after c.in-None.ensures.value refl (λ layout w b. refl) refl

pub returns-in-Ok : goal.returns-in-Ok
returns-in-Ok g c = answer_does g.D.Disk.tells g.D.Disk.files g.D.Disk.counts c.args.self.now c.requires.serves (lines.Info c.args.self.now.name) _ c.in-Some.backup c.in-Some.ensures.value refl c.in-Ok.reply (c.in-Ok.ensures.plain c.args.self.now.name) (stays_so c.in-Ok.reply (phase_at c.args.self.now) (phase_at c.args.self.now) c.in-Ok.ensures.plain refl) (info_replied c.args.self.now _ c.in-Some.backup c.in-Ok.reply c.in-Ok.ensures.said)
    (λ t layout w b any u. c.in-Ok.ensures.goes t w c.args.self.now.name u.serves)

pub returns-in-Err : goal.returns-in-Err
returns-in-Err g c =
    let before = c.in-Some.backup in
    settled_does g.D.Disk.tells g.D.Disk.files g.D.Disk.counts c.args.self.now c.fall.new.self before before (lines.Info c.args.self.now.name) refl c.in-Some.ensures.value c.requires.serves (Err NoMemory) (Err NoMemory) (refl, c.fall.ensures.off, c.fall.ensures.cut) c.fall.ensures.sized c.fall.ensures.named
    (same_caused g.D.Disk.counts before) (λ t. tt) tt tt tt (λ reply p q h. h) refl (uninformed c.args.self.now before _ c.fall.new.self c.in-Err.ensures.said) _ (λ t. refl) (λ h. absurd h)
    (λ t layout w b rise some any u. info_breaks g.D.Disk.files layout w b rise (record c.args.self.now { backup = Some before }) c.fall.new.self u before refl c.fall.ensures.off g.D.Disk.tells g.D.Disk.counts t c.fall.ensures.cut)
