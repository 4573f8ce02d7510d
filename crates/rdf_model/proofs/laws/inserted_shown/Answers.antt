use Rattle.rdf_model.proofs.InsertedRows.{rows_shown}
use Rattle.rdf_model.proofs.laws.inserted_shown.Goals as goal

pub returns : goal.returns
returns c = rows_shown
