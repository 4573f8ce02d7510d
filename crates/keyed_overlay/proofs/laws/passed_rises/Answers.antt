use Rattle.keyed_overlay.proofs.PassLemmas.{passed_rises}
use Rattle.keyed_overlay.proofs.laws.passed_rises.Goals as goal

pub returns : goal.returns
returns c = passed_rises
