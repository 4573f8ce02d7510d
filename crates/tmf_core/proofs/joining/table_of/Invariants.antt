use Rattle.std.proofs.Common.{take}
use Rattle.rdf_model.specs.Contents.{nothing}
use Rattle.rdf_model.specs.Trail.{open_in}
use Rattle.rdf_model.specs.Legal.{Legal}
use Rattle.active_txns.specs.Tells.{Tells}
use Rattle.tmf_core.proofs.joining.table_of.Given as goal

abbrev pub invariant-loop-rec : goal.invariant-loop-rec
invariant-loop-rec l = Legal nothing l.records → Tells l.txns (take l.rec-index l.records) (open_in (take l.rec-index l.records))
