use Rattle.std.proofs.Common.{◌≡◌, ◌≤◌, ◌+◌, drop}
use Rattle.rdf_backup.specs.Feeding.{flagged}
use Rattle.rdf_backup.proofs.feeding.count_flagged.Given as goal

abbrev pub invariant-loop-flag : goal.invariant-loop-flag
invariant-loop-flag l = record {
  counted : l.place + flagged (drop l.flag-index l.flags) ≡ flagged l.flags;
  few : l.place ≤ l.flag-index;
}
