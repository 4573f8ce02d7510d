use Rattle.std.proofs.Common.{◌≡◌, length}
use Rattle.rdf_rows.proofs.trial.disks_of.Given as goal

abbrev pub invariant-loop-disk : goal.invariant-loop-disk
invariant-loop-disk g l = length l.disks.items ≡ l.disk
