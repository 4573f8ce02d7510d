use Rattle.rdf_backup.proofs.PartLaws.{part_is_part}
use Rattle.rdf_backup.proofs.laws.part_is_part.Goals as goal

pub returns : goal.returns
returns c = part_is_part
