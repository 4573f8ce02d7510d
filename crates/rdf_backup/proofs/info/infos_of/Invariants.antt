use Rattle.std.proofs.Common.{◌≡◌, ◌++◌, map}
use Rattle.rdf_core.specs.Backup.{volume_infos}
use Rattle.rdf_volume.specs.Views.{restart_of}
use Rattle.rdf_backup.proofs.Infos.{infos_from}
use Rattle.rdf_backup.proofs.info.infos_of.Given as goal

abbrev pub invariant-loop-number : goal.invariant-loop-number
invariant-loop-number g l = volume_infos l.layout.trail_of l.layout.protect (map (λ volume. restart_of volume) l.volumes) ≡ l.infos.items ++ infos_from l.number l.layout.trail_of l.layout.protect l.volumes
