-- The one spelling of each message between nodes, and how one is read.
use Rattle.std.specs.Prelude.{ℕ, ◌<◌, ◌^◌, List, [], ◌∷◌, Result, Ok}
use Rattle.std.specs.Int.{w64, to_be_bytes}
use Rattle.rdf_codec.specs.declared.fault.CodecFault.{CodecFault}
use Rattle.rdf_codec.specs.declared.messages.Message.{Message}
use Rattle.rdf_codec.specs.declared.messages.Message.TheVariants as message
use Rattle.rdf_codec.specs.Reading.{Rest, ◌>>=◌, number_at, tagged_at}
use Rattle.rdf_codec.specs.Lists.{whole}
use Rattle.rdf_codec.specs.Ships.{ship_spelling, HasShipSpelling, IsShip}
use Rattle.rdf_codec.specs.ShipReading.{ship_at}

-- the kind, and behind it a shipment, or how far was received
abbrev pub message_spelling : Message → List ℕ
message_spelling (message.Ship ship) = 49 ∷ ship_spelling ship
message_spelling (message.Ack received) = 50 ∷ to_be_bytes w64 received

-- a message that can be spelled
abbrev pub HasMessageSpelling : Message → Type 0
HasMessageSpelling (message.Ship ship) = HasShipSpelling ship
HasMessageSpelling (message.Ack received) = Unit {0}

-- a message that can be spelled, within the limits of the types
abbrev pub IsMessage : Message → Type 0
IsMessage (message.Ship ship) = IsShip ship
IsMessage (message.Ack received) = received < 2 ^ 64

-- a shipment, behind its kind
unfoldable pub sent_at : Rest → Result (Message × Rest) CodecFault
sent_at i = do
  ship ← ship_at i
  Ok (message.Ship ship.0, ship.1)

-- an acknowledgement, behind its kind
unfoldable pub ack_at : Rest → Result (Message × Rest) CodecFault
ack_at i = do
  received ← number_at w64 i
  Ok (message.Ack received.0, received.1)

-- a message at the front
unfoldable pub message_at : Rest → Result (Message × Rest) CodecFault
message_at i = tagged_at ((49, sent_at) ∷ (50, ack_at) ∷ []) i

-- the message that takes the whole input
abbrev pub message_of : List ℕ → Result Message CodecFault
message_of bytes = whole message_at bytes
