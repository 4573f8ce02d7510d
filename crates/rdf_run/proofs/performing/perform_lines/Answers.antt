use Rattle.std.proofs.Common.{◌+◌, ◌<◌, List, take, Option, None, Result, Err, refl, sym, ◌∙◌, subst, arith}
use Rattle.std.proofs.lemmas.List.{take_all}
use Rattle.rdf_types.specs.declared.layout.Layout.{Layout}
use Rattle.rdf_types.specs.declared.records.Node.{Node}
use Rattle.plan_lang.specs.declared.lines.Line.{Line}
use Rattle.plan_lang.specs.Sessions.{KeepSessions}
use Rattle.rdf_core.specs.State.{State}
use Rattle.rdf_system.specs.Sessions.{node_of}
use Rattle.rdf_system.specs.Stances.{StandsAs}
use Rattle.rdf_system.specs.States.{disk_of, layout_of, IsAtState, DisksStandFor}
use Rattle.rdf_run.specs.declared.run_fault.RunFault.{RunFault}
use Rattle.rdf_run.specs.declared.status.Status.{Status}
use Rattle.rdf_run.specs.RunFaults.{status_in}
use Rattle.rdf_run.specs.Statuses.{SinkAfter}
use Rattle.rdf_run.specs.Going.{ByStatus, Completes, StopsWriting, BreaksOff, FitFrom}
use Rattle.rdf_run.proofs.Held.{held_now}
use Rattle.rdf_run.proofs.Loop.{begun, stood_so, went_well, holds_well, was_ended, leaves_then}
use Rattle.rdf_run.proofs.performing.perform_lines.Goals as goal

pub loop-answered-init : goal.loop-answered-init
loop-answered-init g c = record {
  so_far = begun (g.A.Answering.given c.args.out.now c.args.out.now) g.D.Disk.tells g.D.Disk.counts (layout_of c.args.system) (disk_of c.args.system) (λ (s : State). IsAtState g.D.Disk.files (layout_of c.args.system) s c.args.system) (StandsAs c.args.system) (g.met.A.Answering.begins c.args.out.now) c.requires.blank (sym c.requires.begun);
  serves = c.requires.serves;
  laid = refl;
  faults = refl;
  fits = record {
    within = omega arith;
    names = c.requires.names;
    behind = sym c.requires.closed;
    sessions = subst (λ (of : Option Node). KeepSessions of c.args.lines.now) (sym c.requires.closed) c.requires.sessions;
  };
}

pub perform_one-requires-clause-fits : goal.perform_one-requires-clause-fits
perform_one-requires-clause-fits g c κs within =
    let inv = c.loop-answered.invariant in
    subst (λ (l : Layout). FitFrom l (node_of c.loop-answered.system.session) c.args.lines.now c.loop-answered.answered) (sym inv.laid) inv.fits

pub perform_one-requires-clause-stood : goal.perform_one-requires-clause-stood
perform_one-requires-clause-stood g c κs within = λ t.
    let inv = c.loop-answered.invariant in
    stood_so g.D.Disk.files (layout_of c.args.system) _ inv.so_far.replies c.loop-answered.system _ inv.laid (inv.so_far.went.run t)

pub perform_one-requires-clause-idle : goal.perform_one-requires-clause-idle
perform_one-requires-clause-idle g c κs within = sym c.in-None.ensures.is

pub perform_one-requires-clause-held : goal.perform_one-requires-clause-held
perform_one-requires-clause-held g c κs within =
    let inv = c.loop-answered.invariant in
    held_now (layout_of c.args.system) c.args.lines.now c.loop-answered.answered inv.so_far.replies c.loop-answered.system c.requires.names c.requires.sessions inv.so_far.went.kinds inv.so_far.went.judged

pub perform_opened-now-requires-clause-fits : goal.perform_opened-now-requires-clause-fits
perform_opened-now-requires-clause-fits g c κs within =
    let inv = c.loop-answered.invariant in
    subst (λ (l : Layout). FitFrom l (node_of c.loop-answered.system.session) c.args.lines.now c.loop-answered.answered) (sym inv.laid) inv.fits

pub perform_opened-now-requires-clause-open : goal.perform_opened-now-requires-clause-open
perform_opened-now-requires-clause-open g c κs within =
    let inv = c.loop-answered.invariant in
    c.in-Some.ensures.open (held_now (layout_of c.args.system) c.args.lines.now c.loop-answered.answered inv.so_far.replies c.loop-answered.system c.requires.names c.requires.sessions inv.so_far.went.kinds inv.so_far.went.judged)

pub loop-answered-preserved-in-Ok : goal.loop-answered-preserved-in-Ok
loop-answered-preserved-in-Ok g c =
    let inv = c.loop-answered.invariant in
    let new = c.perform_one.new.system in
    record {
      so_far = (c.in-Ok.ensures.goes (layout_of c.args.system) c.args.out.now (disk_of c.args.system) inv.laid inv.so_far).1;
      serves = c.in-Ok.ensures.leaves.keeps.serves;
      laid = c.in-Ok.ensures.leaves.keeps.laid ∙ inv.laid;
      faults = c.in-Ok.ensures.leaves.keeps.sink ∙ inv.faults;
      fits = subst (λ (l : Layout). FitFrom l (node_of new.session) c.args.lines.now (c.loop-answered.answered + 1)) inv.laid c.in-Ok.ensures.more;
    }

pub loop-answered-smaller-in-Ok : goal.loop-answered-smaller-in-Ok
loop-answered-smaller-in-Ok g c = omega arith

pub loop-answered-preserved : goal.loop-answered-preserved
loop-answered-preserved g c =
    let inv = c.loop-answered.invariant in
    let layout = layout_of c.args.system in
    let r = c.perform_opened-now.result in
    let fine = sym c.is_err.ensures.value ∙ c.if-is_err.false in
    let goes = c.perform_opened-now.ensures.goes layout c.args.out.now (disk_of c.args.system) inv.laid inv.so_far in
    let Now = Completes (g.A.Answering.given c.args.out.now c.perform_opened-now.new.out) g.D.Disk.tells g.D.Disk.counts layout (take r.answered c.args.lines.now) (disk_of c.args.system) (disk_of r.system) (λ (s : State). IsAtState g.D.Disk.files layout s r.system) (StandsAs r.system) in
    let Stops = StopsWriting (g.A.Answering.given c.args.out.now c.perform_opened-now.new.out) g.D.Disk.tells g.D.Disk.counts layout c.args.lines.now (disk_of c.args.system) (disk_of r.system) (λ (s : State). DisksStandFor g.D.Disk.files layout s r.system) in
    let Breaks = BreaksOff (status_in r.ended) (g.A.Answering.given c.args.out.now c.perform_opened-now.new.out) g.D.Disk.tells g.D.Disk.counts layout c.args.lines.now (disk_of c.args.system) (disk_of r.system) (λ (s : State). DisksStandFor g.D.Disk.files layout s r.system) in
    let Fits = FitFrom (layout_of c.loop-answered.system) (node_of r.system.session) c.args.lines.now r.answered in
    let more = holds_well r.ended fine ((c.loop-answered.answered < r.answered) × Fits) c.perform_opened-now.ensures.more in
    record {
      so_far = subst (λ (s : Status). ByStatus s Now Stops Breaks) (went_well r.ended fine) goes.1;
      serves = c.perform_opened-now.ensures.leaves.keeps.serves;
      laid = c.perform_opened-now.ensures.leaves.keeps.laid ∙ inv.laid;
      faults = subst (λ (s : Status). SinkAfter s (g.A.Answering.faults c.loop-answered.out) (g.A.Answering.faults c.perform_opened-now.new.out)) (went_well r.ended fine) c.perform_opened-now.ensures.leaves.keeps.sink ∙ inv.faults;
      fits = subst (λ (l : Layout). FitFrom l (node_of r.system.session) c.args.lines.now r.answered) inv.laid more.1;
    }

pub loop-answered-smaller : goal.loop-answered-smaller
loop-answered-smaller g c =
    let r = c.perform_opened-now.result in
    let Fits = FitFrom (layout_of c.loop-answered.system) (node_of r.system.session) c.args.lines.now r.answered in
    let more = holds_well r.ended (sym c.is_err.ensures.value ∙ c.if-is_err.false) ((c.loop-answered.answered < r.answered) × Fits) c.perform_opened-now.ensures.more in
    omega (arith, more.0, more.1.within)

pub returns-in-Err : goal.returns-in-Err
returns-in-Err g c =
    let inv = c.loop-answered.invariant in
    let layout = layout_of c.args.system in
    let ended : Result (Unit {0}) RunFault = Err c.in-Err.fault in
    let new = c.perform_one.new.system in
    let goes = c.in-Err.ensures.goes layout c.args.out.now (disk_of c.args.system) inv.laid inv.so_far in
    let Out = g.A.Answering.given c.args.out.now c.perform_one.new.out in
    let At = λ (s : State). IsAtState g.D.Disk.files layout s new in
    let Cut = λ (s : State). DisksStandFor g.D.Disk.files layout s new in
    let old = disk_of c.args.system in
    record {
      ends = was_ended ended refl (Completes Out g.D.Disk.tells g.D.Disk.counts layout (take (c.loop-answered.answered + 1) c.args.lines.now) old (disk_of new) At (StandsAs new)) (Completes Out g.D.Disk.tells g.D.Disk.counts layout c.args.lines.now old (disk_of new) At (StandsAs new))
          (StopsWriting Out g.D.Disk.tells g.D.Disk.counts layout c.args.lines.now old (disk_of new) Cut) (BreaksOff (status_in ended) Out g.D.Disk.tells g.D.Disk.counts layout c.args.lines.now old (disk_of new) Cut) goes.1;
      leaves = leaves_then g.D.Disk.counts ended c.args.system c.loop-answered.system new inv.laid inv.faults inv.so_far.spared c.in-Err.ensures.leaves;
      sound = goes.0;
    }

pub returns-then-is_err : goal.returns-then-is_err
returns-then-is_err g c =
    let inv = c.loop-answered.invariant in
    let layout = layout_of c.args.system in
    let r = c.perform_opened-now.result in
    let goes = c.perform_opened-now.ensures.goes layout c.args.out.now (disk_of c.args.system) inv.laid inv.so_far in
    let Out = g.A.Answering.given c.args.out.now c.perform_opened-now.new.out in
    let old = disk_of c.args.system in
    let new = disk_of r.system in
    let At = λ (s : State). IsAtState g.D.Disk.files layout s r.system in
    let Cut = λ (s : State). DisksStandFor g.D.Disk.files layout s r.system in
    record {
      ends = was_ended r.ended (sym c.is_err.ensures.value ∙ c.if-is_err.true) (Completes Out g.D.Disk.tells g.D.Disk.counts layout (take r.answered c.args.lines.now) old new At (StandsAs r.system)) (Completes Out g.D.Disk.tells g.D.Disk.counts layout c.args.lines.now old new At (StandsAs r.system))
          (StopsWriting Out g.D.Disk.tells g.D.Disk.counts layout c.args.lines.now old new Cut) (BreaksOff (status_in r.ended) Out g.D.Disk.tells g.D.Disk.counts layout c.args.lines.now old new Cut) goes.1;
      leaves = leaves_then g.D.Disk.counts r.ended c.args.system c.loop-answered.system r.system inv.laid inv.faults inv.so_far.spared c.perform_opened-now.ensures.leaves;
      sound = goes.0;
    }

pub returns : goal.returns
returns g c =
    let inv = c.loop-answered.invariant in
    let layout = layout_of c.args.system in
    record {
      ends = subst (λ (ls : List Line). Completes (g.A.Answering.given c.args.out.now c.loop-answered.out) g.D.Disk.tells g.D.Disk.counts layout ls (disk_of c.args.system) (disk_of c.loop-answered.system) (λ (s : State). IsAtState g.D.Disk.files layout s c.loop-answered.system) (StandsAs c.loop-answered.system))
          (take_all c.loop-answered.answered c.args.lines.now (omega (arith, c.loop-answered-test.false))) inv.so_far;
      leaves = record { keeps = record { serves = inv.serves; laid = inv.laid; sink = inv.faults }; named = tt; disks = record { session = None; of_backup = refl; each = inv.so_far.spared }; spared = tt };
      sound = λ t. tt;
    }
