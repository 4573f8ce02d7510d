use Rattle.std.proofs.Common.{◌-◌, refl, arith}
use Rattle.std.proofs.lemmas.Option.{slice_get_read}
use Rattle.rdf_backup.specs.States.{state_of, value_of}
use Rattle.rdf_backup.proofs.Looking.{looked_serves, state_set, volume_fused, over_trail}
use Rattle.rdf_backup.proofs.TakingLists.{in_use_there, in_use_set}
use Rattle.rdf_backup.proofs.backup.Backup.fuse.Goals as goal

pub fuse-requires-2 : goal.fuse-requires-2
fuse-requires-2 g c = record {
  in_use = λ tells. in_use_there g.D.Disk.files c.args.self.now.volumes.items (c.args.disk - 1) c.index_mut-volume.result.now
      (slice_get_read c.args.self.now.volumes.items _ (c.args.disk - 1) c.index_mut-volume.result.now refl (omega (arith, c.args.self.now.sized)) c.index_mut-volume.ensures.value)
      (c.requires.usable tells).volume;
}

pub returns-clause-usable : goal.returns-clause-usable
returns-clause-usable g c = λ tells. record {
  trails = (c.requires.usable tells).trails;
  volume = in_use_set g.D.Disk.files c.args.self.now.volumes.items (c.args.disk - 1) c.fuse-2.new.self (c.requires.usable tells).volume (c.fuse-2.ensures.in_use tells);
}

pub returns-clause-serves : goal.returns-clause-serves
returns-clause-serves g c = λ tells trail serves.
    looked_serves g.D.Disk.files (over_trail trail (state_of 0 c.args.self.now)) c.args.self.now _ (c.args.disk - 1) c.index_mut-volume.result.now c.fuse-2.new.self
    (slice_get_read c.args.self.now.volumes.items _ (c.args.disk - 1) c.index_mut-volume.result.now refl (omega (arith, c.args.self.now.sized)) c.index_mut-volume.ensures.value)
    refl refl refl c.fuse-2.ensures.same serves (c.fuse-2.ensures.in_use tells)

pub returns-clause-same : goal.returns-clause-same
returns-clause-same g c = λ stops.
    state_set stops (value_of c.args.self.now) c.args.self.now.volumes.items (c.args.disk - 1) c.index_mut-volume.result.now c.fuse-2.new.self
    (slice_get_read c.args.self.now.volumes.items _ (c.args.disk - 1) c.index_mut-volume.result.now refl (omega (arith, c.args.self.now.sized)) c.index_mut-volume.ensures.value)
    c.fuse-2.ensures.same.restart

pub returns-clause-counts : goal.returns-clause-counts
returns-clause-counts g c =
    volume_fused g.D.Disk.counts c.args.self.now.trails c.args.self.now.volumes.items (c.args.disk - 1) c.args.disk c.index_mut-volume.result.now c.fuse-2.new.self
    (slice_get_read c.args.self.now.volumes.items _ (c.args.disk - 1) c.index_mut-volume.result.now refl (omega (arith, c.args.self.now.sized)) c.index_mut-volume.ensures.value)
    (omega arith) c.fuse-2.ensures.counts
