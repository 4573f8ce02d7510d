use Rattle.rdf_codec.proofs.ShipFormats.{message_whole}
use Rattle.rdf_codec.proofs.laws.messages_read.Goals as goal

pub returns-clause-read : goal.returns-clause-read
returns-clause-read c = λ bytes x fits e. message_whole.takes bytes x fits e

pub returns-clause-spelled : goal.returns-clause-spelled
returns-clause-spelled c = λ x is. message_whole.again x is
