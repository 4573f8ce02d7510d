use Rattle.std.proofs.Common.{◌≡◌, ℕ, List}
use Rattle.rdf_disk.specs.Outcomes.{Keeps}
use Rattle.rdf_gatelog.specs.Logs.{SameLogs}
use Rattle.rdf_volume.specs.Opening.{IsLooking, IsOpened}
use Rattle.rdf_volume.proofs.mount.look.Given as goal

abbrev pub invariant-loop : goal.invariant-loop
invariant-loop g l = record {
  file : l.looking.reader.file ≡ l.file;
  counts : g.D.Disk.counts l.disk ≡ g.D.Disk.counts l.initial.disk;
  keeps : g.D.Disk.tells → Keeps SameLogs (g.D.Disk.files l.fn.disk) (g.D.Disk.files l.disk);
  opened : g.D.Disk.tells → IsOpened l.file (g.D.Disk.files l.fn.disk) (g.D.Disk.files l.disk);
  looking : g.D.Disk.tells → (given : List (List ℕ)) × IsLooking l.looking given (g.D.Disk.files l.disk);
}
