use Rattle.rdf_codec.proofs.ShipFormats.{ship_length}
use Rattle.rdf_codec.proofs.laws.shipment_fits.Goals as goal

pub returns : goal.returns
returns c = ship_length
