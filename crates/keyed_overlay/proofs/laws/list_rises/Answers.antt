use Rattle.keyed_overlay.proofs.ListLemmas.{list_of_rises}
use Rattle.keyed_overlay.proofs.laws.list_rises.Goals as goal

pub returns : goal.returns
returns c = list_of_rises
