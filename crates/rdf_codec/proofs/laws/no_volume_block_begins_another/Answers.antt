use Rattle.rdf_codec.specs.VolumeBlocks.{volume_spelling}
use Rattle.rdf_codec.specs.VolumeReading.{volume_block_at}
use Rattle.rdf_codec.proofs.Fields.{no_other}
use Rattle.rdf_codec.proofs.VolumeFormats.{FitsBlock, block_read, block_fits}
use Rattle.rdf_codec.proofs.laws.no_volume_block_begins_another.Goals as goal

pub returns : goal.returns
returns c = λ block other x y p q e. no_other volume_block_at volume_spelling FitsBlock block_read.field block other x y (block_fits block p) (block_fits other q) e
