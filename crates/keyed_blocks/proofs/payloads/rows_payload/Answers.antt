use Rattle.std.proofs.Common.{arith, rules}
use Rattle.rdf_codec.specs.declared.volume_blocks.VolumeBlock.TheVariants as block
use Rattle.keyed_blocks.proofs.PayloadLaws.{payload_fits, payload_read}
use Rattle.keyed_blocks.proofs.payloads.rows_payload.Goals as goal

pub returns-clause-fits : goal.returns-clause-fits
returns-clause-fits c =
    let fits = c.volume_block_fits.ensures (block.Rows c.args.rows.now) c.in_ok-write_rows.ensures.limits in
    payload_fits (block.Rows c.args.rows.now) c.in_ok-payload.payload.items c.write_rows.new.out.items (search rules) c.in_ok-write_rows.ensures.ok fits.0 (omega (arith, fits.1))

pub returns-clause-block : goal.returns-clause-block
returns-clause-block c =
    payload_read (block.Rows c.args.rows.now) c.in_ok-payload.payload.items c.write_rows.new.out.items (search rules) c.in_ok-write_rows.ensures.ok
    (c.volume_blocks_read.ensures.spelled (block.Rows c.args.rows.now) c.in_ok-write_rows.ensures.limits)
