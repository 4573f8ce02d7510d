use Rattle.std.proofs.Common.{◌+◌, arith, refl}
use Rattle.std.proofs.lemmas.Option.{slice_get_read}
use Rattle.std.specs.Vec.{with_item}
use Rattle.tmf_core.proofs.StoreLaws.{called, stored_still, left_after, caused, caused_fine}
use Rattle.tmf_core.proofs.store.Store.checkpoint.Goals as goal

pub checkpoint-requires-clause-in_use : goal.checkpoint-requires-clause-in_use
checkpoint-requires-clause-in_use g c = λ tells.
    (called g.D.Disk.files c.args.self.now (c.requires.stored tells) c.number-number.result c.index_mut-volume.result.now
    (slice_get_read c.args.self.now.volumes.items _ c.number-number.result c.index_mut-volume.result.now refl (omega (arith, c.requires.there, c.number-number.ensures.value)) c.index_mut-volume.ensures.value)).in_use

pub returns-in-Ok-clause-ok : goal.returns-in-Ok-clause-ok
returns-in-Ok-clause-ok g c = λ tells. (
  stored_still g.D.Disk.files c.args.self.now (c.requires.stored tells) c.number-number.result c.index_mut-volume.result.now
      (slice_get_read c.args.self.now.volumes.items _ c.number-number.result c.index_mut-volume.result.now refl (omega (arith, c.requires.there, c.number-number.ensures.value)) c.index_mut-volume.ensures.value)
      c.checkpoint.new.self (with_item c.args.self.now.volumes c.number-number.result c.checkpoint.new.self) refl (c.in-Ok.ensures.ok tells) c.in-Ok.ensures.rows c.in-Ok.ensures.restart,
  refl,
)

pub returns-in-Ok-clause-cause : goal.returns-in-Ok-clause-cause
returns-in-Ok-clause-cause g c =
    caused_fine g.D.Disk.counts c.args.self.now c.number-number.result c.index_mut-volume.result.now c.checkpoint.new.self (with_item c.args.self.now.volumes c.number-number.result c.checkpoint.new.self) refl
    (slice_get_read c.args.self.now.volumes.items _ c.number-number.result c.index_mut-volume.result.now refl (omega (arith, c.requires.there, c.number-number.ensures.value)) c.index_mut-volume.ensures.value)
    c.in-Ok.ensures.cause

pub returns-in-Err-clause-err : goal.returns-in-Err-clause-err
returns-in-Err-clause-err g c = λ tells.
    left_after g.D.Disk.files c.in_use_is_durable.ensures c.in_use_stands.ensures c.args.self.now c.number-number.result c.index_mut-volume.result.now c.checkpoint.new.self (with_item c.args.self.now.volumes c.number-number.result c.checkpoint.new.self) (c.requires.stored tells) refl
    (slice_get_read c.args.self.now.volumes.items _ c.number-number.result c.index_mut-volume.result.now refl (omega (arith, c.requires.there, c.number-number.ensures.value)) c.index_mut-volume.ensures.value)
    (c.in-Err.ensures.err tells)

pub returns-in-Err-clause-cause : goal.returns-in-Err-clause-cause
returns-in-Err-clause-cause g c =
    caused g.D.Disk.counts c.args.self.now c.number-number.result (c.number-number.result + 1) c.index_mut-volume.result.now c.checkpoint.new.self (with_item c.args.self.now.volumes c.number-number.result c.checkpoint.new.self) c.in-Err.fault c.at_disk.result (omega arith) c.at_disk.ensures refl
    (slice_get_read c.args.self.now.volumes.items _ c.number-number.result c.index_mut-volume.result.now refl (omega (arith, c.requires.there, c.number-number.ensures.value)) c.index_mut-volume.ensures.value)
    c.in-Err.ensures.cause
