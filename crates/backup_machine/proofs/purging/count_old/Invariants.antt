use Rattle.std.proofs.Common.{◌≡◌, ◌≤◌, ◌-◌, length, drop}
use Rattle.rdf_core.specs.Backup.{drops}
use Rattle.backup_machine.specs.Budgets.{after_some}
use Rattle.backup_machine.proofs.purging.count_old.Given as goal

abbrev pub invariant-loop-left : goal.invariant-loop-left
invariant-loop-left l = record {
  within : l.gone ≤ length l.starts;
  left : after_some l.starts (drops l.retain l.floor l.starts) l.fn.most ≡ after_some (drop l.gone l.starts) (drops l.retain l.floor (drop l.gone l.starts)) l.left;
}

abbrev pub decreases-loop-left : goal.decreases-loop-left
decreases-loop-left l = length l.starts - l.gone
