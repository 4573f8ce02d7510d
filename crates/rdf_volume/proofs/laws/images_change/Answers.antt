use Rattle.rdf_volume.proofs.ChangeLaws as laws
use Rattle.rdf_volume.proofs.laws.images_change.Goals as goal

pub returns : goal.returns
returns c vol files rows trail on = laws.images_change vol trail files rows on
