use Rattle.std.proofs.Common.{◌≡◌, map}
use Rattle.rdf_core.specs.Layouts.{least}
use Rattle.rdf_volume.specs.Views.{restart_of}
use Rattle.rdf_backup.proofs.FloorLaws.{least_from}
use Rattle.rdf_backup.proofs.purging.least_point.Given as goal

abbrev pub invariant-loop-number : goal.invariant-loop-number
invariant-loop-number g l = least_from l.number l.flags l.volumes l.lowest ≡ least l.flags (map (λ volume. restart_of volume) l.volumes) l.low
