use Rattle.std.proofs.Common.{drop, ◌≤◌}
use Rattle.rdf_volume.specs.Views.{restart_of}
use Rattle.rdf_backup.specs.Parting.{AllFlagged}
use Rattle.rdf_backup.proofs.beginning.all_between.Given as goal

abbrev pub invariant-loop-number : goal.invariant-loop-number
invariant-loop-number g l = AllFlagged (λ v. (l.start ≤ restart_of v) × (restart_of v ≤ l.end)) (drop l.number l.flags) (drop l.number l.volumes) →
    AllFlagged (λ v. (l.start ≤ restart_of v) × (restart_of v ≤ l.end)) l.flags l.volumes
