use Rattle.rdf_model.proofs.InsertedRows.{inserted_count}
use Rattle.rdf_model.proofs.laws.inserted_count.Goals as goal

pub returns : goal.returns
returns c = inserted_count
