use Rattle.rdf_codec.specs.declared.image_blocks.ImageBlock.TheVariants as block
use Rattle.image_trails.proofs.PayloadLaws.{payload_fits, payload_read}
use Rattle.image_trails.proofs.payloads.ship_payload.Goals as goal

pub returns-clause-fits : goal.returns-clause-fits
returns-clause-fits c =
    payload_fits (block.Ship (record { from = c.args.from; to = c.args.to; part = c.args.part.now })) c.new-payload.result.items c.write_shipped.new.out.items c.new-payload.ensures.items c.in_ok-write_shipped.ensures.ok
    (c.image_block_fits.ensures (block.Ship (record { from = c.args.from; to = c.args.to; part = c.args.part.now })) c.in_ok-write_shipped.ensures.limits)

pub returns-clause-block : goal.returns-clause-block
returns-clause-block c =
    payload_read (block.Ship (record { from = c.args.from; to = c.args.to; part = c.args.part.now })) c.new-payload.result.items c.write_shipped.new.out.items c.new-payload.ensures.items c.in_ok-write_shipped.ensures.ok
    (c.image_blocks_read.ensures.spelled (block.Ship (record { from = c.args.from; to = c.args.to; part = c.args.part.now })) c.in_ok-write_shipped.ensures.limits)
