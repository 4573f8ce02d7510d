use Rattle.std.proofs.Common.{◌-◌, arith, refl}
use Rattle.std.proofs.lemmas.Option.{slice_get_read}
use Rattle.std.specs.Vec.{with_item}
use Rattle.tmf_core.proofs.StoreLaws.{called, stored_still}
use Rattle.tmf_core.proofs.VolumeLaws.{fused_one}
use Rattle.tmf_core.proofs.volumes.fuse_disk.Goals as goal

pub fuse-requires-2 : goal.fuse-requires-2
fuse-requires-2 g c = record {
  in_use = λ tells.
      (called g.D.Disk.files c.args.store.now (c.requires.stored tells) (c.args.disk - 1) c.index_mut-volume.result.now
      (slice_get_read c.args.store.now.volumes.items _ (c.args.disk - 1) c.index_mut-volume.result.now refl (omega (arith, c.requires.there, c.if-disk-eq0.false)) c.index_mut-volume.ensures.value)).in_use;
}

pub returns-clause-stored : goal.returns-clause-stored
returns-clause-stored g c = λ tells. (
  stored_still g.D.Disk.files c.args.store.now (c.requires.stored tells) (c.args.disk - 1) c.index_mut-volume.result.now
      (slice_get_read c.args.store.now.volumes.items _ (c.args.disk - 1) c.index_mut-volume.result.now refl (omega (arith, c.requires.there, c.if-disk-eq0.false)) c.index_mut-volume.ensures.value)
      c.fuse-2.new.self (with_item c.args.store.now.volumes (c.args.disk - 1) c.fuse-2.new.self) refl (c.fuse-2.ensures.in_use tells) c.fuse-2.ensures.same.rows c.fuse-2.ensures.same.restart,
  refl,
)

pub returns-clause-counts : goal.returns-clause-counts
returns-clause-counts g c =
    fused_one g.D.Disk.counts c.args.store.now (c.args.disk - 1) c.args.disk c.index_mut-volume.result.now c.fuse-2.new.self (with_item c.args.store.now.volumes (c.args.disk - 1) c.fuse-2.new.self) (omega (arith, c.if-disk-eq0.false)) refl
    (slice_get_read c.args.store.now.volumes.items _ (c.args.disk - 1) c.index_mut-volume.result.now refl (omega (arith, c.requires.there, c.if-disk-eq0.false)) c.index_mut-volume.ensures.value)
    c.fuse-2.ensures.counts
