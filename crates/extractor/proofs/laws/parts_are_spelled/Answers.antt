use Rattle.extractor.proofs.Parts.{spelled}
use Rattle.extractor.proofs.laws.parts_are_spelled.Goals as goal

pub returns : goal.returns
returns c = spelled
