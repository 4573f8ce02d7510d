use Rattle.rdf_codec.specs.declared.image_blocks.ImageBlock.TheVariants as block
use Rattle.image_trails.proofs.PayloadLaws.{payload_fits, payload_read}
use Rattle.image_trails.proofs.payloads.mark_payload.Goals as goal

pub returns-clause-fits : goal.returns-clause-fits
returns-clause-fits c =
    payload_fits (block.Mark c.args.phase) c.new-payload.result.items c.write_mark.new.out.items c.new-payload.ensures.items c.in_ok-write_mark.ensures.ok
    (c.image_block_fits.ensures (block.Mark c.args.phase) c.write_mark.ensures.limits)

pub returns-clause-block : goal.returns-clause-block
returns-clause-block c =
    payload_read (block.Mark c.args.phase) c.new-payload.result.items c.write_mark.new.out.items c.new-payload.ensures.items c.in_ok-write_mark.ensures.ok
    (c.image_blocks_read.ensures.spelled (block.Mark c.args.phase) c.write_mark.ensures.limits)
