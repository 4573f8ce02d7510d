use Rattle.std.proofs.Common.{arith}
use Rattle.rdf_codec.proofs.Blocks.{rows_few}
use Rattle.rdf_codec.proofs.volume_blocks.write_rows.Goals as goal

pub put_rows-written-requires : goal.put_rows-written-requires
put_rows-written-requires c = omega (arith, rows_few c.args.rows.now, c.requires.few)
