-- How the table of active transactions is made of a trail.
use Rattle.std.specs.Prelude.{List, [], ◌∷◌, ◌++◌}
use Rattle.rdf_types.specs.declared.records.Record.{Record}
use Rattle.rdf_model.specs.Contents.{nothing}
use Rattle.rdf_model.specs.Trail.{open_in}
use Rattle.rdf_model.specs.Legal.{Legal}
use Rattle.active_txns.specs.Tells.{Tells}
use Rattle.active_txns.specs.declared.table.ActiveTxns.{ActiveTxns}

-- the table that tells of a legal trail, with its open transactions active, tells so of the trail with the next record
abbrev pub NotesNext : Record → ActiveTxns → ActiveTxns → Type 0
NotesNext r old new = (trail : List Record) → Legal nothing (trail ++ r ∷ []) → Tells old trail (open_in trail) → Tells new (trail ++ r ∷ []) (open_in (trail ++ r ∷ []))
