use Rattle.rdf_codec.specs.Messages.{message_spelling, IsMessage, message_at}
use Rattle.rdf_codec.proofs.Fields.{no_other}
use Rattle.rdf_codec.proofs.ShipFormats.{message_read}
use Rattle.rdf_codec.proofs.laws.no_message_begins_another.Goals as goal

pub returns : goal.returns
returns c = λ x other a b p q e. no_other message_at message_spelling IsMessage message_read.field x other a b p q e
