use Rattle.rdf_codec.specs.Ships.{ship_spelling, IsShip}
use Rattle.rdf_codec.specs.ShipReading.{ship_at}
use Rattle.rdf_codec.proofs.Fields.{no_other}
use Rattle.rdf_codec.proofs.ShipFormats.{ship_read}
use Rattle.rdf_codec.proofs.laws.no_shipment_begins_another.Goals as goal

pub returns : goal.returns
returns c = λ x other a b p q e. no_other ship_at ship_spelling IsShip ship_read.field x other a b p q e
