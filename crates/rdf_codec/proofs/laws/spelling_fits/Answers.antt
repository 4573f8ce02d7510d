use Rattle.rdf_codec.proofs.Lengths.{spelling_few}
use Rattle.rdf_codec.proofs.laws.spelling_fits.Goals as goal

pub returns : goal.returns
returns c = spelling_few
