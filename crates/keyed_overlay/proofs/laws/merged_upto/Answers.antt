use Rattle.keyed_overlay.proofs.PassLemmas.{merged_upto}
use Rattle.keyed_overlay.proofs.laws.merged_upto.Goals as goal

pub returns : goal.returns
returns c = merged_upto
