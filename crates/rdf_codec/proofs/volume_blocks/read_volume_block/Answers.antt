use Rattle.std.proofs.Common.{arith}
use Rattle.std.proofs.lemmas.Result.{IfOk-weaker}
use Rattle.rdf_codec.specs.VolumeBlocks.{volume_spelling, IsVolumeBlock}
use Rattle.rdf_codec.specs.VolumeReading.{volume_block_of}
use Rattle.rdf_codec.proofs.VolumeFormats.{volume_whole}
use Rattle.rdf_codec.proofs.Wholes.{is_found, is_read, is_placed}
use Rattle.rdf_codec.proofs.volume_blocks.read_volume_block.Goals as goal

pub returns-clause-found : goal.returns-clause-found
returns-clause-found c =
    IfOk-weaker c.block_in.result _ _ (λ x found. found.1) (is_found volume_block_of volume_spelling IsVolumeBlock volume_whole c.args.bytes.now c.block_in.result (λ i. omega (arith, c.type_inv.bytes i)) c.block_in.ensures)

pub returns-clause-limits : goal.returns-clause-limits
returns-clause-limits c =
    IfOk-weaker c.block_in.result _ _ (λ x found. found.0) (is_found volume_block_of volume_spelling IsVolumeBlock volume_whole c.args.bytes.now c.block_in.result (λ i. omega (arith, c.type_inv.bytes i)) c.block_in.ensures)

pub returns-clause-only : goal.returns-clause-only
returns-clause-only c = is_read volume_block_of volume_spelling IsVolumeBlock volume_whole c.args.bytes.now c.block_in.result c.block_in.ensures

pub returns-clause-place : goal.returns-clause-place
returns-clause-place c = is_placed volume_block_of volume_spelling IsVolumeBlock volume_whole c.args.bytes.now c.block_in.result (λ i. omega (arith, c.type_inv.bytes i)) c.block_in.ensures
