use Rattle.rdf_volume.proofs.ChangeLaws as laws
use Rattle.rdf_volume.proofs.laws.change_sets.Goals as goal

pub returns : goal.returns
returns c vol files rows change on = laws.change_sets vol files rows change on
