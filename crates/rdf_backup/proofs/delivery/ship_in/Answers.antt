use Rattle.std.proofs.Common.{◌≡◌}
use Rattle.rdf_codec.specs.declared.messages.Message.TheVariants as message
use Rattle.rdf_backup.proofs.delivery.ship_in.Goals as goal

pub returns-in-Ok-Ship-clause-only : goal.returns-in-Ok-Ship-clause-only
returns-in-Ok-Ship-clause-only c ship is =
    let e : c.in-Ok-Ship.field-0 ≡ message.Ship ship = c.in-Ok-Ship.ensures.only (message.Ship ship) is.limits is.spelled in
    let f : c.in-Ok-Ship.field-0 ≡ message.Ship c.in-Ok-Ship.ship = c.in-Ok-Ship.field-0-is in
    cc
