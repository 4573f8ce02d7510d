use Rattle.rdf_volume.specs.Views.{InUse}
use Rattle.benches.proofs.volume.steps.get_spread.Given as goal

abbrev pub invariant-loop-place : goal.invariant-loop-place
invariant-loop-place g l = g.D.Disk.tells → InUse g.D.Disk.files l.volume
