use Rattle.std.proofs.Common.{◌+◌, None, take, refl, sym}
use Rattle.rdf_core.specs.State.{State}
use Rattle.rdf_system.specs.Sessions.{node_of}
use Rattle.rdf_system.specs.Stances.{StandsAs}
use Rattle.rdf_system.specs.States.{disk_of, layout_of, IsAtState, DisksStandFor}
use Rattle.rdf_run.specs.Going.{Completes}
use Rattle.rdf_run.proofs.Loop.{more_done, ended_here, next_named, next_fits, one_behind, spares_in}
use Rattle.rdf_run.proofs.performing.perform_one.Goals as goal

pub perform_line-requires-after_bounds : goal.perform_line-requires-after_bounds
perform_line-requires-after_bounds g c κs within = record {
  names = next_named (layout_of c.args.system.now) c.args.lines.now c.args.at (node_of c.args.system.now.session) c.index-lines-at.result c.requires.within c.index-lines-at.is c.requires.fits;
  fits = next_fits (layout_of c.args.system.now) c.args.lines.now c.args.at (node_of c.args.system.now.session) c.index-lines-at.result c.requires.within c.index-lines-at.is c.requires.fits;
  serves = c.requires.serves;
  idle = c.requires.idle;
  held = c.requires.held;
  stood = c.requires.stood;
}

pub returns-in-Ok : goal.returns-in-Ok
returns-in-Ok g c =
    let sys = c.args.system.now in
    let new = c.perform_line.new.system in
    let l = c.index-lines-at.result in
    record {
      goes = λ layout from start laid so.
          let files = g.D.Disk.files in (
            λ t. tt,
            more_done (g.A.Answering.given from c.args.out.now) (g.A.Answering.given c.args.out.now c.perform_line.new.out) (g.A.Answering.given from c.perform_line.new.out) (g.met.A.Answering.joins from c.args.out.now c.perform_line.new.out)
                g.D.Disk.tells g.D.Disk.counts layout c.args.lines.now start (disk_of sys) (disk_of new) (λ (s : State). IsAtState files layout s sys) (λ (s : State). IsAtState files layout s new) (λ (s : State). IsAtState files layout s new) (λ t s at. at) (StandsAs sys) (StandsAs new)
                c.args.at l c.requires.within c.index-lines-at.is so c.in-Ok.ensures.disks
                (c.in-Ok.ensures.goes layout (take c.args.at c.args.lines.now) so.replies start laid (sym c.requires.fits.behind) so.went),
          );
      leaves = record { keeps = c.in-Ok.ensures.keeps; named = c.in-Ok.ensures.named; disks = record { session = None; of_backup = refl; each = c.in-Ok.ensures.disks }; spared = tt };
      more = one_behind (layout_of sys) c.args.lines.now c.args.at (node_of sys.session) (node_of new.session) l c.requires.within c.index-lines-at.is c.requires.fits c.in-Ok.ensures.more;
    }

pub returns-in-Err : goal.returns-in-Err
returns-in-Err g c =
    let sys = c.args.system.now in
    let new = c.perform_line.new.system in
    let l = c.index-lines-at.result in
    let fault = c.in-Err.fault in
    record {
      goes = λ layout from start laid so.
          let files = g.D.Disk.files in (
            λ t. c.in-Err.ensures.sound t layout (so.went.run t).state (so.went.run t).at,
            ended_here (g.A.Answering.given from c.args.out.now) (g.A.Answering.given c.args.out.now c.perform_line.new.out) (g.A.Answering.given from c.perform_line.new.out) (g.met.A.Answering.joins from c.args.out.now c.perform_line.new.out)
                g.D.Disk.tells g.D.Disk.counts layout c.args.lines.now start (disk_of sys) (disk_of new) (λ (s : State). IsAtState files layout s sys) (λ (s : State). IsAtState files layout s new) (λ (s : State). DisksStandFor files layout s new) (λ t s at. c.stands.ensures t layout s at) (StandsAs sys) (StandsAs new)
                c.args.at l c.requires.within c.index-lines-at.is so (Completes (g.A.Answering.given from c.perform_line.new.out) g.D.Disk.tells g.D.Disk.counts layout (take (c.args.at + 1) c.args.lines.now) start (disk_of new) (λ (s : State). IsAtState files layout s new) (StandsAs new)) fault c.in-Err.ensures.disks
                (c.in-Err.ensures.goes layout (take c.args.at c.args.lines.now) so.replies start laid (sym c.requires.fits.behind) so.went),
          );
      leaves = record { keeps = c.in-Err.ensures.keeps; named = c.in-Err.ensures.named; disks = record { session = None; of_backup = refl; each = c.in-Err.ensures.disks }; spared = spares_in g.D.Disk.counts fault (disk_of sys) (disk_of new) c.in-Err.ensures.disks };
      more = tt;
    }
