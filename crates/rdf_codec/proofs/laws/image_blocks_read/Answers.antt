use Rattle.rdf_codec.proofs.ShipFormats.{image_whole}
use Rattle.rdf_codec.proofs.laws.image_blocks_read.Goals as goal

pub returns-clause-read : goal.returns-clause-read
returns-clause-read c = λ bytes x fits e. image_whole.takes bytes x fits e

pub returns-clause-spelled : goal.returns-clause-spelled
returns-clause-spelled c = λ x is. image_whole.again x is
