use Rattle.std.proofs.Common.{◌∙◌, sym}
use Rattle.rdf_backup.proofs.FloorLaws.{least_turn, least_done}
use Rattle.rdf_backup.proofs.purging.least_point.Goals as goal

pub loop-number-preserved : goal.loop-number-preserved
loop-number-preserved g c =
    least_turn c.args.flags.now c.args.volumes.now c.loop-number.number c.loop-number.lowest c.with_point-lowest.result c.restart_point.result c.index-volumes-number.result c.requires.many c.loop-number-test.true
    c.restart_point.ensures c.index-volumes-number.is c.with_point-lowest.ensures
    ∙ c.loop-number.invariant

pub returns : goal.returns
returns g c = sym (least_done c.args.flags.now c.args.volumes.now c.loop-number.number c.loop-number.lowest c.requires.many c.loop-number-test.false) ∙ c.loop-number.invariant
