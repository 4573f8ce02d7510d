use Rattle.rdf_codec.proofs.VolumeFormats.{volume_whole}
use Rattle.rdf_codec.proofs.laws.volume_blocks_read.Goals as goal

pub returns-clause-read : goal.returns-clause-read
returns-clause-read c = λ bytes block fits e. volume_whole.takes bytes block fits e

pub returns-clause-spelled : goal.returns-clause-spelled
returns-clause-spelled c = λ block is. volume_whole.again block is
