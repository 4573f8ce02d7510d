use Rattle.std.proofs.Common.{◌+◌, ◌-◌, ◌<◌, length, take, drop, sym, ◌∙◌, arith}
use Rattle.std.proofs.lemmas.List.{take_rest}
use Rattle.std.proofs.lemmas.Result.{on_ok_weaker}
use Rattle.rdf_core.specs.State.{State}
use Rattle.rdf_system.specs.Sessions.{node_of}
use Rattle.rdf_system.specs.Stances.{StandsAs}
use Rattle.rdf_system.specs.States.{disk_of, layout_of, IsAtState, DisksStandFor}
use Rattle.rdf_run.proofs.Drives.{open_node}
use Rattle.rdf_run.specs.Behind.{GoesBehind}
use Rattle.rdf_run.specs.Going.{Completes, StopsWriting, BreaksOff, FitFrom}
use Rattle.rdf_run.specs.RunFaults.{status_in}
use Rattle.rdf_run.proofs.Loop.{in_session, some_fit, some_behind, goes_behind, left_in, holds_well, never_more, was_ended}
use Rattle.rdf_run.proofs.performing.perform_opened.Goals as goal

pub perform_session-system-requires-clause-ready : goal.perform_session-system-requires-clause-ready
perform_session-system-requires-clause-ready g c κs within =
    in_session (layout_of c.args.system) c.args.lines.now c.args.at _ (take_rest c.args.lines.now c.args.at) c.args.node (node_of c.args.system.session) (open_node c.args.node c.args.system c.requires.open) c.requires.fits

pub overflow_add-result : goal.overflow_add-result
overflow_add-result g c =
    let r = c.perform_session-system.result in
    let more = holds_well r.ended (sym c.is_err.ensures.value ∙ c.if-is_err.false) (GoesBehind c.args.node (node_of r.system.session) (take (length c.args.lines.now - c.args.at) (drop c.args.at c.args.lines.now)) r.answered) c.perform_session-system.ensures.more in
    let fit = some_fit (layout_of c.args.system) c.args.lines.now c.args.at _ (take_rest c.args.lines.now c.args.at) c.args.node (node_of r.system.session) r.answered c.requires.fits.within more in
    omega (arith, fit.1, c.requires.few)

pub returns-then-is_err : goal.returns-then-is_err
returns-then-is_err g c =
    let sys = c.args.system in
    let node = c.args.node in
    let r = c.perform_session-system.result in
    let done = c.perform_session-system.ensures in
    let counts = g.D.Disk.counts in
    let e = open_node node sys c.requires.open in
    record {
      goes = λ layout from start laid so.
          let Out = g.A.Answering.given from c.perform_session-system.new.out in
          let new = disk_of r.system in
          let At = λ (s : State). IsAtState g.D.Disk.files layout s r.system in
          let Cut = λ (s : State). DisksStandFor g.D.Disk.files layout s r.system in
          let goes = goes_behind layout c.args.lines.now c.args.at _ (take_rest c.args.lines.now c.args.at) (status_in r.ended) Out g.D.Disk.tells counts r.answered start new At Cut (StandsAs r.system)
          (done.goes layout from (take c.args.at c.args.lines.now) start laid (c.requires.fits.behind ∙ e) so) in (
            goes.0,
            was_ended r.ended (sym c.is_err.ensures.value ∙ c.if-is_err.true) (Completes Out g.D.Disk.tells counts layout (take (c.args.at + r.answered) c.args.lines.now) start new At (StandsAs r.system)) (Completes Out g.D.Disk.tells counts layout (take c.args.at c.args.lines.now) start new At (StandsAs r.system))
                (StopsWriting Out g.D.Disk.tells counts layout c.args.lines.now start new Cut) (BreaksOff (status_in r.ended) Out g.D.Disk.tells counts layout c.args.lines.now start new Cut) goes.1,
          );
      leaves = left_in counts node sys c.requires.serves c.requires.open done.keeps done.named done.disks done.spared;
      more = never_more r.ended (sym c.is_err.ensures.value ∙ c.if-is_err.true) ((c.args.at < c.args.at) × FitFrom (layout_of sys) (node_of r.system.session) c.args.lines.now c.args.at);
    }

pub returns : goal.returns
returns g c =
    let node = c.args.node in
    let r = c.perform_session-system.result in
    let done = c.perform_session-system.ensures in
    let e = open_node node c.args.system c.requires.open in
    record {
      goes = λ layout from start laid so.
          goes_behind layout c.args.lines.now c.args.at _ (take_rest c.args.lines.now c.args.at) (status_in r.ended) (g.A.Answering.given from c.perform_session-system.new.out) g.D.Disk.tells g.D.Disk.counts r.answered start (disk_of r.system) (λ (s : State). IsAtState g.D.Disk.files layout s r.system) (λ (s : State). DisksStandFor g.D.Disk.files layout s r.system) (StandsAs r.system)
          (done.goes layout from (take c.args.at c.args.lines.now) start laid (c.requires.fits.behind ∙ e) so);
      leaves = left_in g.D.Disk.counts node c.args.system c.requires.serves c.requires.open done.keeps done.named done.disks done.spared;
      more = on_ok_weaker r.ended (some_behind (layout_of c.args.system) c.args.lines.now c.args.at _ (take_rest c.args.lines.now c.args.at) node (node_of c.args.system.session) (node_of r.system.session) r.answered e c.requires.fits) done.more;
    }
