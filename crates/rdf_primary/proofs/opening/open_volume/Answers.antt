use Rattle.std.proofs.Common.{rules, ap, ◌∙◌}
use Rattle.rdf_disk.specs.Outcomes.{seen_of}
use Rattle.rdf_disk.specs.Counts.{Counts}
use Rattle.rdf_volume.specs.Views.{disk_of}
use Rattle.audit_trail.specs.InUse.{trail_of}
use Rattle.tmf_core.specs.Stores.{StandsWithin}
use Rattle.node_disks.specs.OpeningLaws.{durably_same, seen_now}
use Rattle.rdf_primary.proofs.OpeningLaws.{volume_kept, mounted_behind, caught}
use Rattle.rdf_primary.proofs.opening.open_volume.Goals as goal

pub caught_up-requires : goal.caught_up-requires
caught_up-requires g c = record {
  behind = λ tells. mounted_behind g.D.Disk.files (trail_of c.args.trail.now) c.args.vol (seen_of (g.D.Disk.files c.restart.new.self)) c.in-Ok-mount.volume (c.in-Ok-mount.ensures.ok tells)
      (seen_now (StandsWithin c.args.vol (trail_of c.args.trail.now)) (g.D.Disk.files c.args.disk) (g.D.Disk.files c.restart.new.self) (c.in-Ok.ensures.files tells) (c.requires.stood tells));
}

pub returns-in-Ok-mount : goal.returns-in-Ok-mount
returns-in-Ok-mount g c =
    let on = c.in-Ok-mount.ensures.counts ∙ c.in-Ok.ensures.cause in
    caught g.D.Disk.tells g.D.Disk.files g.D.Disk.counts (trail_of c.args.trail.now) c.args.vol c.args.disk (g.D.Disk.counts (disk_of c.in-Ok-mount.volume)) c.caught_up.result on c.caught_up.ensures.shows c.caught_up.ensures.counts c.caught_up.ensures.keeps
    (c.caught_up.ensures.cause (ap (λ (k : Counts). k.off) on)) c.caught_up.ensures.sound

pub returns-in-Err-mount : goal.returns-in-Err-mount
returns-in-Err-mount g c = record {
  keeps = λ tells.
      volume_kept c.args.vol (trail_of c.args.trail.now) (g.D.Disk.files c.restart.new.self) (g.D.Disk.files c.in-Err-mount.shut.disk) (c.in-Err-mount.ensures.keeps tells)
      (durably_same (StandsWithin c.args.vol (trail_of c.args.trail.now)) (g.D.Disk.files c.args.disk) (g.D.Disk.files c.restart.new.self) (c.in-Ok.ensures.files tells) (c.requires.stood tells));
  cause = search rules;
  sound = λ tells file at.
      let s = seen_now (StandsWithin c.args.vol (trail_of c.args.trail.now)) (g.D.Disk.files c.args.disk) (g.D.Disk.files c.restart.new.self) (c.in-Ok.ensures.files tells) (c.requires.stood tells) in
      c.in-Err-mount.ensures.whole tells s.1.0 s.0 file at s.1.1.2;
}

pub returns-in-Err : goal.returns-in-Err
returns-in-Err g c = record {
  keeps = λ tells. durably_same (StandsWithin c.args.vol (trail_of c.args.trail.now)) (g.D.Disk.files c.args.disk) (g.D.Disk.files c.restart.new.self) (c.restart.ensures.files tells) (c.requires.stood tells);
  cause = search rules;
  sound = search rules;
}
