use Rattle.rdf_volume.specs.Views.{InUse}
use Rattle.benches.proofs.volume.steps.put_all.Given as goal

abbrev pub invariant-loop-batch : goal.invariant-loop-batch
invariant-loop-batch g l = g.D.Disk.tells → InUse g.D.Disk.files l.volume
