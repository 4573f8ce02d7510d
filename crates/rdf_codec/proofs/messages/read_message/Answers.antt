use Rattle.std.proofs.Common.{arith}
use Rattle.std.proofs.lemmas.Result.{IfOk-weaker}
use Rattle.rdf_codec.specs.Messages.{message_spelling, IsMessage, message_of}
use Rattle.rdf_codec.proofs.ShipFormats.{message_whole}
use Rattle.rdf_codec.proofs.Wholes.{is_found, is_read, is_placed}
use Rattle.rdf_codec.proofs.messages.read_message.Goals as goal

pub returns-clause-found : goal.returns-clause-found
returns-clause-found c =
    IfOk-weaker c.message_in.result _ _ (λ x found. found.1) (is_found message_of message_spelling IsMessage message_whole c.args.bytes.now c.message_in.result (λ i. omega (arith, c.type_inv.bytes i)) c.message_in.ensures)

pub returns-clause-limits : goal.returns-clause-limits
returns-clause-limits c =
    IfOk-weaker c.message_in.result _ _ (λ x found. found.0) (is_found message_of message_spelling IsMessage message_whole c.args.bytes.now c.message_in.result (λ i. omega (arith, c.type_inv.bytes i)) c.message_in.ensures)

pub returns-clause-only : goal.returns-clause-only
returns-clause-only c = is_read message_of message_spelling IsMessage message_whole c.args.bytes.now c.message_in.result c.message_in.ensures

pub returns-clause-place : goal.returns-clause-place
returns-clause-place c = is_placed message_of message_spelling IsMessage message_whole c.args.bytes.now c.message_in.result (λ i. omega (arith, c.type_inv.bytes i)) c.message_in.ensures
