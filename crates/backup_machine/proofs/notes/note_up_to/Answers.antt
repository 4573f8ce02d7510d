use Rattle.std.proofs.Common.{arith}
use Rattle.backup_machine.proofs.NoteLaws.{noted_turn}
use Rattle.backup_machine.proofs.notes.note_up_to.Goals as goal

pub loop-done-preserved : goal.loop-done-preserved
loop-done-preserved c = record {
  noted = noted_turn c.args.layout.now c.args.trail.now c.loop-done.done c.index-trail-pos.result c.loop-done.opens c.note_one.new.opens (omega (arith, c.loop-done-test.true, c.requires.within)) c.index-trail-pos.is
      c.loop-done.invariant.noted c.in_ok-note_one.ensures.ok;
  order = omega (arith, c.loop-done-test.true);
}
