use Rattle.rdf_codec.proofs.ShipFormats.{message_length}
use Rattle.rdf_codec.proofs.laws.message_fits.Goals as goal

pub returns : goal.returns
returns c = message_length
