use Rattle.std.proofs.Common.{◌+◌, arith, refl, sym, ◌∙◌}
use Rattle.std.proofs.lemmas.Option.{slice_get_read}
use Rattle.std.specs.Vec.{with_item}
use Rattle.tmf_core.proofs.StoreLaws.{called, stored_still, left_after, looked, caused, caused_fine}
use Rattle.tmf_core.proofs.store.Store.value_at.Goals as goal

pub get-requires : goal.get-requires
get-requires g c = record {
  in_use = λ tells.
      (called g.D.Disk.files c.args.self.now (c.requires.stored tells) c.number-vol.result c.index_mut-volume.result.now
      (slice_get_read c.args.self.now.volumes.items _ c.number-vol.result c.index_mut-volume.result.now refl (omega (arith, c.requires.there, c.number-vol.ensures.value)) c.index_mut-volume.ensures.value)).in_use;
}

pub returns-in-Ok-clause-ok : goal.returns-in-Ok-clause-ok
returns-in-Ok-clause-ok g c = λ tells. (
  stored_still g.D.Disk.files c.args.self.now (c.requires.stored tells) c.number-vol.result c.index_mut-volume.result.now
      (slice_get_read c.args.self.now.volumes.items _ c.number-vol.result c.index_mut-volume.result.now refl (omega (arith, c.requires.there, c.number-vol.ensures.value)) c.index_mut-volume.ensures.value)
      c.get.new.self (with_item c.args.self.now.volumes c.number-vol.result c.get.new.self) refl (c.in-Ok.ensures.ok tells) c.in-Ok.ensures.same.rows c.in-Ok.ensures.same.restart,
  refl,
)

pub returns-in-Ok-clause-found : goal.returns-in-Ok-clause-found
returns-in-Ok-clause-found g c = λ tells.
    c.in-Ok.ensures.found tells
    ∙ (called g.D.Disk.files c.args.self.now (c.requires.stored tells) c.number-vol.result c.index_mut-volume.result.now
    (slice_get_read c.args.self.now.volumes.items _ c.number-vol.result c.index_mut-volume.result.now refl (omega (arith, c.requires.there, c.number-vol.ensures.value)) c.index_mut-volume.ensures.value)).shows c.args.key.now (sym c.number-vol.ensures.value)

pub returns-in-Ok-clause-cause : goal.returns-in-Ok-clause-cause
returns-in-Ok-clause-cause g c =
    caused_fine g.D.Disk.counts c.args.self.now c.number-vol.result c.index_mut-volume.result.now c.get.new.self (with_item c.args.self.now.volumes c.number-vol.result c.get.new.self) refl
    (slice_get_read c.args.self.now.volumes.items _ c.number-vol.result c.index_mut-volume.result.now refl (omega (arith, c.requires.there, c.number-vol.ensures.value)) c.index_mut-volume.ensures.value)
    c.in-Ok.ensures.cause

pub returns-in-Err-clause-err : goal.returns-in-Err-clause-err
returns-in-Err-clause-err g c = λ tells.
    left_after g.D.Disk.files c.in_use_is_durable.ensures c.in_use_stands.ensures c.args.self.now c.number-vol.result c.index_mut-volume.result.now c.get.new.self (with_item c.args.self.now.volumes c.number-vol.result c.get.new.self) (c.requires.stored tells) refl
    (slice_get_read c.args.self.now.volumes.items _ c.number-vol.result c.index_mut-volume.result.now refl (omega (arith, c.requires.there, c.number-vol.ensures.value)) c.index_mut-volume.ensures.value)
    (c.in-Err.ensures.err tells)

pub returns-in-Err-clause-cause : goal.returns-in-Err-clause-cause
returns-in-Err-clause-cause g c =
    caused g.D.Disk.counts c.args.self.now c.number-vol.result (c.number-vol.result + 1) c.index_mut-volume.result.now c.get.new.self (with_item c.args.self.now.volumes c.number-vol.result c.get.new.self) c.in-Err.fault c.at_disk.result (omega arith) c.at_disk.ensures refl
    (slice_get_read c.args.self.now.volumes.items _ c.number-vol.result c.index_mut-volume.result.now refl (omega (arith, c.requires.there, c.number-vol.ensures.value)) c.index_mut-volume.ensures.value)
    c.in-Err.ensures.cause

pub returns-in-Ok-clause-seen : goal.returns-in-Ok-clause-seen
returns-in-Ok-clause-seen g c =
    looked c.args.self.now c.number-vol.result c.index_mut-volume.result.now c.get.new.self
    (slice_get_read c.args.self.now.volumes.items _ c.number-vol.result c.index_mut-volume.result.now refl (omega (arith, c.requires.there, c.number-vol.ensures.value)) c.index_mut-volume.ensures.value)
    c.in-Ok.ensures.same

pub returns-in-Err-clause-seen : goal.returns-in-Err-clause-seen
returns-in-Err-clause-seen g c =
    looked c.args.self.now c.number-vol.result c.index_mut-volume.result.now c.get.new.self
    (slice_get_read c.args.self.now.volumes.items _ c.number-vol.result c.index_mut-volume.result.now refl (omega (arith, c.requires.there, c.number-vol.ensures.value)) c.index_mut-volume.ensures.value)
    c.in-Err.ensures.same
