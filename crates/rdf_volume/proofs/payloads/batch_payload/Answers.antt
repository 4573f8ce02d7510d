use Rattle.std.proofs.Common.{◌≡◌, [], arith, rules}
use Rattle.rdf_codec.specs.declared.volume_blocks.VolumeBlock.TheVariants as block
use Rattle.rdf_volume.proofs.payloads.batch_payload.Goals as goal

pub returns-clause-fits : goal.returns-clause-fits
returns-clause-fits c =
    let none : c.in_ok-payload.payload.items ≡ [] = search rules in
    let fits = c.volume_block_fits.ensures (block.Batch c.args.restart c.args.batch.now) c.in_ok-write_batch.ensures.limits in
    rw (c.in_ok-write_batch.ensures.ok, none) (omega (arith, fits.0), omega (arith, fits.1))

pub returns-clause-block : goal.returns-clause-block
returns-clause-block c =
    let none : c.in_ok-payload.payload.items ≡ [] = search rules in
    rw (c.in_ok-write_batch.ensures.ok, none) (c.volume_blocks_read.ensures.spelled (block.Batch c.args.restart c.args.batch.now) c.in_ok-write_batch.ensures.limits)
