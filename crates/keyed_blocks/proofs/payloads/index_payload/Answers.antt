use Rattle.std.proofs.Common.{arith, rules}
use Rattle.rdf_codec.specs.declared.volume_blocks.VolumeBlock.TheVariants as block
use Rattle.keyed_blocks.proofs.PayloadLaws.{payload_fits, payload_read}
use Rattle.keyed_blocks.proofs.payloads.index_payload.Goals as goal

pub returns-clause-fits : goal.returns-clause-fits
returns-clause-fits c =
    let fits = c.volume_block_fits.ensures (block.Index c.args.entries.now) c.in_ok-write_index.ensures.limits in
    payload_fits (block.Index c.args.entries.now) c.in_ok-payload.payload.items c.write_index.new.out.items (search rules) c.in_ok-write_index.ensures.ok fits.0 (omega (arith, c.requires.few))

pub returns-clause-block : goal.returns-clause-block
returns-clause-block c =
    payload_read (block.Index c.args.entries.now) c.in_ok-payload.payload.items c.write_index.new.out.items (search rules) c.in_ok-write_index.ensures.ok
    (c.volume_blocks_read.ensures.spelled (block.Index c.args.entries.now) c.in_ok-write_index.ensures.limits)
