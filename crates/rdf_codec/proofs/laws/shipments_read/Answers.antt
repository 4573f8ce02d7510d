use Rattle.rdf_codec.proofs.ShipFormats.{ship_whole}
use Rattle.rdf_codec.proofs.laws.shipments_read.Goals as goal

pub returns-clause-read : goal.returns-clause-read
returns-clause-read c = λ bytes x fits e. ship_whole.takes bytes x fits e

pub returns-clause-spelled : goal.returns-clause-spelled
returns-clause-spelled c = λ x is. ship_whole.again x is
