-- Where the shipment of a message begins.
use Rattle.std.proofs.Common.{◌≡◌, ℕ, ◌≤◌, List, length, sym, ap, ◌∙◌, subst, arith}
use Rattle.std.proofs.lemmas.Nat.{from_be_bytes-to_be_bytes_8}
use Rattle.rdf_codec.specs.declared.ships.Ship.{Ship}
use Rattle.rdf_backup.specs.Replies.{eight_behind}
use Rattle.rdf_wire.specs.Shipping.{IsSent}

pub start_is : (bytes : List ℕ) (ship : Ship) → IsSent bytes ship → eight_behind bytes ≡ ship.from
start_is bytes ship is = ap (λ (b : List ℕ). eight_behind b) is.spelled ∙ from_be_bytes-to_be_bytes_8 ship.from is.limits.starts

pub long_enough : (bytes : List ℕ) (ship : Ship) → IsSent bytes ship → 9 ≤ length bytes
long_enough bytes ship is = subst (λ (b : List ℕ). 9 ≤ length b) (sym is.spelled) (omega arith)
