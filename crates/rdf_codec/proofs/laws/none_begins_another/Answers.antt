use Rattle.rdf_codec.specs.Spelling.{record_spelling, IsRecord}
use Rattle.rdf_codec.specs.Reading.{record_at}
use Rattle.rdf_codec.proofs.Fields.{no_other}
use Rattle.rdf_codec.proofs.Records.{record_read}
use Rattle.rdf_codec.proofs.laws.none_begins_another.Goals as goal

pub returns : goal.returns
returns c = λ rec other x y p q e. no_other record_at record_spelling IsRecord record_read.field rec other x y p q e
