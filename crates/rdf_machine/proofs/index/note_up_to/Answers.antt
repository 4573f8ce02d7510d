use Rattle.std.proofs.Common.{arith}
use Rattle.rdf_machine.proofs.PositionLaws.{noted_turn}
use Rattle.rdf_machine.proofs.index.note_up_to.Goals as goal

pub loop-noted-preserved : goal.loop-noted-preserved
loop-noted-preserved c =
    noted_turn c.args.trail.now c.loop-noted.noted c.index-trail-pos.result c.loop-noted.images c.note_one.new.images (omega (arith, c.loop-noted-test.true, c.requires.within)) c.index-trail-pos.is
    c.loop-noted.invariant c.in_ok-note_one.ensures.ok
