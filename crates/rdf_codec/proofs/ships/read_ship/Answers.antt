use Rattle.std.proofs.Common.{arith}
use Rattle.std.proofs.lemmas.Result.{IfOk-weaker}
use Rattle.rdf_codec.specs.Ships.{ship_spelling, IsShip}
use Rattle.rdf_codec.specs.ShipReading.{ship_of}
use Rattle.rdf_codec.proofs.ShipFormats.{ship_whole}
use Rattle.rdf_codec.proofs.Wholes.{is_found, is_read, is_placed}
use Rattle.rdf_codec.proofs.ships.read_ship.Goals as goal

pub returns-clause-found : goal.returns-clause-found
returns-clause-found c =
    IfOk-weaker c.whole_ship.result _ _ (λ x found. found.1) (is_found ship_of ship_spelling IsShip ship_whole c.args.bytes.now c.whole_ship.result (λ i. omega (arith, c.type_inv.bytes i)) c.whole_ship.ensures)

pub returns-clause-limits : goal.returns-clause-limits
returns-clause-limits c =
    IfOk-weaker c.whole_ship.result _ _ (λ x found. found.0) (is_found ship_of ship_spelling IsShip ship_whole c.args.bytes.now c.whole_ship.result (λ i. omega (arith, c.type_inv.bytes i)) c.whole_ship.ensures)

pub returns-clause-only : goal.returns-clause-only
returns-clause-only c = is_read ship_of ship_spelling IsShip ship_whole c.args.bytes.now c.whole_ship.result c.whole_ship.ensures

pub returns-clause-place : goal.returns-clause-place
returns-clause-place c = is_placed ship_of ship_spelling IsShip ship_whole c.args.bytes.now c.whole_ship.result (λ i. omega (arith, c.type_inv.bytes i)) c.whole_ship.ensures
