use Rattle.std.proofs.Common.{rules}
use Rattle.audit_trail.specs.Spelled.{Spells}
use Rattle.node_disks.specs.OpeningLaws.{durably_same, seen_now}
use Rattle.rdf_primary.proofs.OpeningLaws.{trail_kept}
use Rattle.rdf_primary.proofs.opening.open_trail.Goals as goal

pub returns-in-Ok-mount : goal.returns-in-Ok-mount
returns-in-Ok-mount g c = record {
  found = λ tells trail h.
      let only = c.in-Ok-mount.ensures.only tells trail (seen_now (Spells trail) (g.D.Disk.files c.args.disk) (g.D.Disk.files c.restart.new.self) (c.in-Ok.ensures.files tells) h) in
      record { trail_is = only.0; in_use = c.in-Ok-mount.ensures.ok tells; alone = only.1 };
  turned = search rules;
}

pub returns-in-Err-mount : goal.returns-in-Err-mount
returns-in-Err-mount g c = record {
  keeps = λ tells trail h.
      trail_kept trail (g.D.Disk.files c.restart.new.self) (g.D.Disk.files c.in-Err-mount.shut.disk) (c.in-Err-mount.ensures.keeps tells)
      (durably_same (Spells trail) (g.D.Disk.files c.args.disk) (g.D.Disk.files c.restart.new.self) (c.in-Ok.ensures.files tells) h);
  cause = search rules;
  sound = λ tells trail h. c.in-Err-mount.ensures.whole tells trail (seen_now (Spells trail) (g.D.Disk.files c.args.disk) (g.D.Disk.files c.restart.new.self) (c.in-Ok.ensures.files tells) h);
}

pub returns-in-Err : goal.returns-in-Err
returns-in-Err g c = record {
  keeps = λ tells trail h. durably_same (Spells trail) (g.D.Disk.files c.args.disk) (g.D.Disk.files c.restart.new.self) (c.restart.ensures.files tells) h;
  cause = search rules;
  sound = search rules;
}
