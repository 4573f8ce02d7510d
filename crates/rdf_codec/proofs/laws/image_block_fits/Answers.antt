use Rattle.rdf_codec.proofs.ShipFormats.{image_length}
use Rattle.rdf_codec.proofs.laws.image_block_fits.Goals as goal

pub returns : goal.returns
returns c = image_length
