use Rattle.backup_machine.proofs.LoopLaws.{flags_turn}
use Rattle.backup_machine.proofs.session.Halts.none.Goals as goal

pub loop-point-preserved : goal.loop-point-preserved
loop-point-preserved c = flags_turn c.all-all.result.now c.loop-point._point-index c.loop-point.flags.items c.push.new.self.items c.loop-point-test.true c.loop-point.invariant c.in_ok-push.ensures.items
