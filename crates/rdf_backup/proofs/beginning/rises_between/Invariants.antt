use Rattle.std.proofs.Common.{drop}
use Rattle.rdf_types.specs.Entries.{Rises}
use Rattle.rdf_backup.proofs.beginning.rises_between.Given as goal

abbrev pub invariant-loop-entry : goal.invariant-loop-entry
invariant-loop-entry l = Rises l.next (drop l.entry-index l.part) l.end → Rises l.start l.part l.end
