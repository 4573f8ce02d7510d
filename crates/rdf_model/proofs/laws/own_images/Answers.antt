use Rattle.rdf_model.proofs.SmallLaws.{own_images}
use Rattle.rdf_model.proofs.laws.own_images.Goals as goal

pub returns : goal.returns
returns c = own_images
