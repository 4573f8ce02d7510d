use Rattle.keyed_blocks.proofs.BufferLaws.{buffer_more}
use Rattle.keyed_blocks.proofs.row_buffer.RowBuffer.push.Goals as goal

pub invariant_of-self-2 : goal.invariant_of-self-2
invariant_of-self-2 c =
    buffer_more c.self.inside.rows.items c.args.self.now c.push.new.self.items c.self.inside.bytes c.args.row c.row_length.result c.self.view_is c.self.invariant c.in_ok-push.ensures.items
    c.row_length.ensures.value c.requires.above c.requires.fits
