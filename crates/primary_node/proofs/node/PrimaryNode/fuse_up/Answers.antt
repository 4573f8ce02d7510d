use Rattle.std.proofs.Common.{rules, inr, inl, refl, ◌∙◌, false, Some}
use Rattle.rdf_primary.specs.States.{disks_in}
use Rattle.primary_node.proofs.CallLaws.{done_kept}
use Rattle.primary_node.proofs.OffLaws.{done_no}
use Rattle.primary_node.proofs.FuseLaws.{fused_each, still_off, fuse_fine, fuse_raises, fuse_up_follows}
use Rattle.primary_node.proofs.node.PrimaryNode.fuse_up.Goals as goal

pub returns : goal.returns
returns g c =
    let each = fused_each g.D.Disk.counts c.args.disk c.args.primary.tmf.store c.fuse.new.self.tmf.store c.fuse.ensures.counts in
    record {
      performs = λ tells layout a rise some u. fuse_up_follows g.D.Disk.files layout a rise c.args.disk c.args.calls c.args.tear (record c.args.self.now { primary = Some c.args.primary }) (record c.args.self.now { primary = Some c.fuse.new.self }) c.args.primary c.fuse.new.self refl u
          c.args.self.now.volumes c.requires.serves.0.sized c.requires.there c.fuse.ensures.sized (c.fuse.ensures.same tells);
      serves = (
        record {
          up = c.fuse.ensures.up;
          runs = c.fuse.ensures.runs;
          sized = c.fuse.ensures.sized ∙ c.requires.serves.0.sized;
          on = still_off g.D.Disk.counts c.args.disk (disks_in c.args.primary) (disks_in c.fuse.new.self) each false c.requires.serves.0.on;
        },
        c.requires.serves.1,
        c.requires.serves.2,
      );
      sized = refl;
      cause = inl (fuse_fine g.D.Disk.counts c.args.disk (disks_in c.args.primary) (disks_in c.fuse.new.self) each, done_no);
      sound = λ tells. tt;
      fuses = inr (refl, fuse_raises g.D.Disk.counts c.args.disk (disks_in c.args.primary) (disks_in c.fuse.new.self) each);
      kept = done_kept (record c.args.self.now { primary = Some c.args.primary }) (record c.args.self.now { primary = Some c.fuse.new.self });
      kinds = search rules;
      moved = refl;
    }
