use Rattle.rdf_model.proofs.InsertedRows.{inserted_rows}
use Rattle.rdf_model.proofs.laws.inserted_rows.Goals as goal

pub returns : goal.returns
returns c = inserted_rows
