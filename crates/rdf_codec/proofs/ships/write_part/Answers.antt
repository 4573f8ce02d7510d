use Rattle.std.proofs.Common.{arith}
use Rattle.rdf_codec.proofs.ShipFormats.{ship_few}
use Rattle.rdf_codec.proofs.ships.write_part.Goals as goal

pub put_part-written-requires : goal.put_part-written-requires
put_part-written-requires c = omega (arith, ship_few (record { from = c.args.from; to = c.args.to; part = c.args.part.now }) c.requires)
