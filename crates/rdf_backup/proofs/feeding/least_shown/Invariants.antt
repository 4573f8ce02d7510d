use Rattle.std.proofs.Common.{◌≡◌, drop}
use Rattle.rdf_backup.specs.Feeding.{least_of}
use Rattle.rdf_backup.proofs.feeding.least_shown.Given as goal

abbrev pub invariant-loop-place : goal.invariant-loop-place
invariant-loop-place g l = least_of l.lowest (drop l.place l.watch.volumes) ≡ least_of l.low l.watch.volumes
