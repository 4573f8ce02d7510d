use Rattle.std.proofs.Common.{◌+◌, arith, refl}
use Rattle.std.proofs.lemmas.Option.{slice_get_read}
use Rattle.std.specs.Vec.{with_item}
use Rattle.tmf_core.proofs.StoreLaws.{called, stored_still, caused, caused_fine}
use Rattle.tmf_core.proofs.VolumeLaws.{rows_listed, left_looked}
use Rattle.tmf_core.proofs.volumes.rows_on.Goals as goal

pub scan-requires : goal.scan-requires
scan-requires g c = record {
  in_use = λ tells.
      (called g.D.Disk.files c.args.store.now (c.requires.stored tells) c.number-number.result c.index_mut-volume.result.now
      (slice_get_read c.args.store.now.volumes.items _ c.number-number.result c.index_mut-volume.result.now refl (omega (arith, c.requires.there, c.number-number.ensures.value)) c.index_mut-volume.ensures.value)).in_use;
}

pub returns-in-Ok-clause-ok : goal.returns-in-Ok-clause-ok
returns-in-Ok-clause-ok g c = λ tells. (
  stored_still g.D.Disk.files c.args.store.now (c.requires.stored tells) c.number-number.result c.index_mut-volume.result.now
      (slice_get_read c.args.store.now.volumes.items _ c.number-number.result c.index_mut-volume.result.now refl (omega (arith, c.requires.there, c.number-number.ensures.value)) c.index_mut-volume.ensures.value)
      c.scan.new.self (with_item c.args.store.now.volumes c.number-number.result c.scan.new.self) refl (c.in-Ok.ensures.ok tells) c.in-Ok.ensures.same.rows c.in-Ok.ensures.same.restart,
  refl,
)

pub returns-in-Ok-clause-rows : goal.returns-in-Ok-clause-rows
returns-in-Ok-clause-rows g c = λ tells.
    rows_listed g.D.Disk.files c.args.store.now (c.requires.stored tells) c.number-number.result c.index_mut-volume.result.now
    (slice_get_read c.args.store.now.volumes.items _ c.number-number.result c.index_mut-volume.result.now refl (omega (arith, c.requires.there, c.number-number.ensures.value)) c.index_mut-volume.ensures.value)
    c.args.vol _ c.number-number.ensures.value (c.in-Ok.ensures.rows tells)

pub returns-in-Ok-clause-cause : goal.returns-in-Ok-clause-cause
returns-in-Ok-clause-cause g c =
    caused_fine g.D.Disk.counts c.args.store.now c.number-number.result c.index_mut-volume.result.now c.scan.new.self (with_item c.args.store.now.volumes c.number-number.result c.scan.new.self) refl
    (slice_get_read c.args.store.now.volumes.items _ c.number-number.result c.index_mut-volume.result.now refl (omega (arith, c.requires.there, c.number-number.ensures.value)) c.index_mut-volume.ensures.value)
    c.in-Ok.ensures.cause

pub returns-in-Err-clause-err : goal.returns-in-Err-clause-err
returns-in-Err-clause-err g c = λ tells.
    left_looked g.D.Disk.files c.args.store.now (c.requires.stored tells) c.number-number.result c.index_mut-volume.result.now
    (slice_get_read c.args.store.now.volumes.items _ c.number-number.result c.index_mut-volume.result.now refl (omega (arith, c.requires.there, c.number-number.ensures.value)) c.index_mut-volume.ensures.value)
    c.in_use_is_durable.ensures c.in_use_stands.ensures c.scan.new.self (with_item c.args.store.now.volumes c.number-number.result c.scan.new.self) refl (c.in-Err.ensures.err tells)

pub returns-in-Err-clause-cause : goal.returns-in-Err-clause-cause
returns-in-Err-clause-cause g c =
    caused g.D.Disk.counts c.args.store.now c.number-number.result (c.number-number.result + 1) c.index_mut-volume.result.now c.scan.new.self (with_item c.args.store.now.volumes c.number-number.result c.scan.new.self) c.in-Err.fault c.at_disk.result (omega arith) c.at_disk.ensures refl
    (slice_get_read c.args.store.now.volumes.items _ c.number-number.result c.index_mut-volume.result.now refl (omega (arith, c.requires.there, c.number-number.ensures.value)) c.index_mut-volume.ensures.value)
    c.in-Err.ensures.cause
