use Rattle.std.proofs.Common.{◌∙◌, arith}
use Rattle.rdf_backup.proofs.PlaceLaws.{next_least}
use Rattle.rdf_backup.proofs.feeding.least_shown.Goals as goal

pub loop-place-preserved : goal.loop-place-preserved
loop-place-preserved g c =
    next_least c.args.watch.now.volumes c.loop-place.place c.loop-place.lowest c.with_point-lowest.result c.point.result (omega (arith, c.requires.all, c.loop-place-test.true)) c.point.ensures c.with_point-lowest.ensures
    ∙ c.loop-place.invariant
