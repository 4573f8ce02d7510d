use Rattle.rdf_codec.proofs.VolumeFormats.{block_length}
use Rattle.rdf_codec.proofs.laws.volume_block_fits.Goals as goal

pub returns : goal.returns
returns c = block_length
