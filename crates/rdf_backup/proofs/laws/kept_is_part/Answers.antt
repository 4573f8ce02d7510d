use Rattle.rdf_backup.proofs.PartLaws.{kept_is_part}
use Rattle.rdf_backup.proofs.laws.kept_is_part.Goals as goal

pub returns : goal.returns
returns c = kept_is_part
