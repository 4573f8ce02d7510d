use Rattle.std.proofs.Common.{◌≡◌, drop}
use Rattle.rdf_backup.specs.Parts.{noted_since}
use Rattle.rdf_backup.proofs.noting.note_since.Given as goal

abbrev pub invariant-loop-entry : goal.invariant-loop-entry
invariant-loop-entry l = noted_since l.from l.txns (drop l.entry-index l.part) ≡ noted_since l.fn.from l.fn.txns l.fn.part
