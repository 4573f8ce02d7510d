use Rattle.std.proofs.Common.{◌-◌}
use Rattle.rdf_machine.specs.Images.{AreImages}
use Rattle.rdf_machine.proofs.index.note_up_to.Given as goal

abbrev pub invariant-loop-noted : goal.invariant-loop-noted
invariant-loop-noted l = AreImages l.trail l.noted l.images

abbrev pub decreases-loop-noted : goal.decreases-loop-noted
decreases-loop-noted l = l.to - l.noted
