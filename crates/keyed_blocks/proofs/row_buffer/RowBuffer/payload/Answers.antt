use Rattle.std.proofs.Common.{sym, subst}
use Rattle.rdf_codec.specs.VolumeBlocks.{FillsBlock}
use Rattle.keyed_blocks.proofs.BufferLaws.{buffer_fills}
use Rattle.keyed_blocks.proofs.row_buffer.RowBuffer.payload.Goals as goal

pub rows_payload-requires : goal.rows_payload-requires
rows_payload-requires c = subst FillsBlock (sym c.deref.ensures.value) (buffer_fills c.self.inside.rows.items c.args.self.now c.self.inside.bytes c.self.view_is c.self.invariant c.requires.some)
