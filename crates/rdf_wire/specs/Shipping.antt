-- The message that carries a shipment.
use Rattle.std.specs.Prelude.{◌≡◌, ℕ, List}
use Rattle.rdf_codec.specs.declared.ships.Ship.{Ship}
use Rattle.rdf_codec.specs.declared.messages.Message.TheVariants as message
use Rattle.rdf_codec.specs.Ships.{IsShip}
use Rattle.rdf_codec.specs.Messages.{message_spelling}

-- the bytes are the message of this shipment
pub record IsSent (bytes : List ℕ) (ship : Ship) : Type 0 where
  pub limits : IsShip ship
  pub spelled : bytes ≡ message_spelling (message.Ship ship)
