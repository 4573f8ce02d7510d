use Rattle.std.proofs.Common.{◌≡◌, ◌++◌, drop}
use Rattle.rdf_core.specs.Backup.{volume_infos}
use Rattle.backup_machine.proofs.telling.infos_of.Given as goal

abbrev pub invariant-loop-number : goal.invariant-loop-number
invariant-loop-number l = volume_infos l.trails l.protect l.points ≡ l.infos.items ++ volume_infos (drop l.number l.trails) (drop l.number l.protect) (drop l.number l.points)
