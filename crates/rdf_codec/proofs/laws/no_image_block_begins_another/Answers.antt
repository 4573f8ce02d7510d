use Rattle.rdf_codec.specs.ImageBlocks.{image_spelling, IsImageBlock}
use Rattle.rdf_codec.specs.ImageReading.{image_block_at}
use Rattle.rdf_codec.proofs.Fields.{no_other}
use Rattle.rdf_codec.proofs.ShipFormats.{image_read}
use Rattle.rdf_codec.proofs.laws.no_image_block_begins_another.Goals as goal

pub returns : goal.returns
returns c = λ x other a b p q e. no_other image_block_at image_spelling IsImageBlock image_read.field x other a b p q e
