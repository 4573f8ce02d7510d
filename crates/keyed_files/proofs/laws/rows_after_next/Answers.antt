use Rattle.keyed_files.proofs.StepLemmas.{rows_after_next}
use Rattle.keyed_files.proofs.laws.rows_after_next.Goals as goal

pub returns : goal.returns
returns c = rows_after_next
