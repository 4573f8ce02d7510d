use Rattle.std.proofs.Common.{rules, subst, ◌∙◌}
use Rattle.image_disks.specs.Flaws.{IsFlaw}
use Rattle.image_disks.specs.Spelled.{block_of}
use Rattle.image_disks.specs.Standing.{StandsFor}
use Rattle.image_trails.specs.Memory.{plan_of, value_in}
use Rattle.node_disks.specs.OpeningLaws.{durably_same, seen_now, seen_same}
use Rattle.rdf_backup.specs.Standing.{TrailsStandFor}
use Rattle.rdf_backup.proofs.ReopeningLaws.{found_trails, trails_kept}
use Rattle.rdf_backup.proofs.reopening.open_trails.Goals as goal

pub returns-in-Ok-mount : goal.returns-in-Ok-mount
returns-in-Ok-mount g c = record {
  in_use = c.in-Ok-mount.ensures.ok;
  found = λ tells trail b h.
      found_trails c.args.layout.now (value_in c.in-Ok-mount.trails.memory) (g.D.Disk.files c.args.disk) (g.D.Disk.files c.restart.new.self) (c.in-Ok.ensures.files tells) (c.in-Ok-mount.ensures.only tells) trail b h;
  value = λ tells.
      subst (λ d. StandsFor block_of (plan_of c.args.layout.now) (value_in c.in-Ok-mount.trails.memory) d) (seen_same (g.D.Disk.files c.args.disk) (g.D.Disk.files c.restart.new.self) (c.in-Ok.ensures.files tells)) (c.in-Ok-mount.ensures.value tells);
  stands = λ tells trail b h.
      trails_kept c.args.layout.now trail b (g.D.Disk.files c.restart.new.self) (g.D.Disk.files c.in-Ok-mount.trails.disk) (c.in-Ok-mount.ensures.keeps tells)
      (durably_same (TrailsStandFor c.args.layout.now trail b) (g.D.Disk.files c.args.disk) (g.D.Disk.files c.restart.new.self) (c.in-Ok.ensures.files tells) h);
  laid = c.in-Ok-mount.ensures.opened.laid;
  turned = c.in-Ok-mount.ensures.opened.uncounted ∙ c.in-Ok.ensures.cause;
}

pub returns-in-Err-mount : goal.returns-in-Err-mount
returns-in-Err-mount g c = record {
  keeps = λ tells trail b h.
      trails_kept c.args.layout.now trail b (g.D.Disk.files c.restart.new.self) (g.D.Disk.files c.in-Err-mount.shut.disk) (c.in-Err-mount.ensures.keeps tells)
      (durably_same (TrailsStandFor c.args.layout.now trail b) (g.D.Disk.files c.args.disk) (g.D.Disk.files c.restart.new.self) (c.in-Ok.ensures.files tells) h);
  cause = search rules;
  sound = λ tells trail b h file at.
      let s = seen_now (TrailsStandFor c.args.layout.now trail b) (g.D.Disk.files c.args.disk) (g.D.Disk.files c.restart.new.self) (c.in-Ok.ensures.files tells) h in
      c.in-Err-mount.ensures.whole tells s.value file at s.stands;
  damaged = λ tells file at is.
      subst (λ d. IsFlaw block_of (plan_of c.args.layout.now) d file at) (seen_same (g.D.Disk.files c.args.disk) (g.D.Disk.files c.restart.new.self) (c.in-Ok.ensures.files tells)) (c.in-Err-mount.ensures.damaged tells file at is);
}

pub returns-in-Err : goal.returns-in-Err
returns-in-Err g c = record {
  keeps = λ tells trail b h. durably_same (TrailsStandFor c.args.layout.now trail b) (g.D.Disk.files c.args.disk) (g.D.Disk.files c.restart.new.self) (c.restart.ensures.files tells) h;
  cause = search rules;
  sound = search rules;
  damaged = search rules;
}
