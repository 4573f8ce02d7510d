use Rattle.rdf_model.specs.RowLaws.{rows_listed}
use Rattle.rdf_model.proofs.laws.rows_listed.Goals as goal

pub returns : goal.returns
returns c = rows_listed
