use Rattle.keyed_files.proofs.StepLemmas.{rows_after_first}
use Rattle.keyed_files.proofs.laws.rows_after_first.Goals as goal

pub returns : goal.returns
returns c = rows_after_first
