use Rattle.std.proofs.Common.{arith, rules}
use Rattle.rdf_codec.specs.declared.volume_blocks.VolumeBlock.TheVariants as block
use Rattle.keyed_blocks.proofs.PayloadLaws.{payload_fits, payload_read}
use Rattle.keyed_blocks.proofs.payloads.end_payload.Goals as goal

pub returns-clause-fits : goal.returns-clause-fits
returns-clause-fits c =
    let fits = c.volume_block_fits.ensures (block.End c.args.restart c.args.rows c.args.blocks) c.write_end.ensures.limits in
    payload_fits (block.End c.args.restart c.args.rows c.args.blocks) c.in_ok-payload.payload.items c.write_end.new.out.items (search rules) c.in_ok-write_end.ensures.ok fits.0 (omega (arith, fits.1))

pub returns-clause-block : goal.returns-clause-block
returns-clause-block c =
    payload_read (block.End c.args.restart c.args.rows c.args.blocks) c.in_ok-payload.payload.items c.write_end.new.out.items (search rules) c.in_ok-write_end.ensures.ok
    (c.volume_blocks_read.ensures.spelled (block.End c.args.restart c.args.rows c.args.blocks) c.write_end.ensures.limits)
