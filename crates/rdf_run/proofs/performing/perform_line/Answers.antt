use Rattle.std.proofs.Common.{◌≡◌, None, Result, Err, sym, ap, ◌∙◌, subst}
use Rattle.plan_lang.specs.Sessions.{session_behind}
use Rattle.rdf_core.specs.State.{State}
use Rattle.rdf_system.specs.Noting.{behind_node}
use Rattle.rdf_system.specs.Sessions.{node_of, used_by}
use Rattle.rdf_system.specs.Stances.{StandsAs}
use Rattle.rdf_system.specs.States.{disk_of, layout_of, IsAtState, DisksStandFor}
use Rattle.rdf_monitor.specs.declared.fault.AnswerFault.{AnswerFault}
use Rattle.rdf_monitor.specs.declared.fault.AnswerFault.TheVariants.{Write, NoMemory}
use Rattle.rdf_run.specs.declared.run_fault.RunFault.{RunFault}
use Rattle.rdf_run.specs.RunFaults.{fault_of_node, status_of_run}
use Rattle.rdf_run.specs.Statuses.{ending_at, NamesUsedDisk}
use Rattle.rdf_run.specs.Returned.{Returned, is_behind}
use Rattle.rdf_run.specs.Going.{LineEnds}
use Rattle.rdf_run.proofs.Loop.{off_ends, not_write}
use Rattle.rdf_run.proofs.Returns.{returned_failing, returned_reply, names_used, system_there}
use Rattle.rdf_run.proofs.Runs.{run_laws}
use Rattle.rdf_run.proofs.Replying.{replied_kind}
use Rattle.rdf_run.proofs.OneLine.{went_on, went_half, broke_after, broke_off}
use Rattle.rdf_run.proofs.Steps.{stops_of}
use Rattle.rdf_run.proofs.performing.perform_line.Goals as goal

is_err : {T : Type 0} (r : Result T AnswerFault) (e f : AnswerFault) → r ≡ Err e → e ≡ f → r ≡ Err f
is_err r e f p q = cc

pub returns-in-Ok-take-clause-goes : goal.returns-in-Ok-take-clause-goes
returns-in-Ok-take-clause-goes g c = λ layout lines replies start laid here went. record {
  reply = c.in-Ok.reply;
  wrote = c.in-Ok-take.ensures.ok;
  went = went_on (run_laws c.volumes_move.ensures.go_on c.step_goes_on.ensures c.no_point_falls.ensures) g.D.Disk.tells g.D.Disk.files g.D.Disk.counts layout lines replies c.args.line.now start c.args.system.now c.line.new.self laid went c.in-Ok.reply c.in-Ok.ensures.does.performs
      (stops_of g.D.Disk.counts c.args.system.now c.line.new.self c.args.line.now c.in-Ok.reply c.in-Ok.ensures.does.cause) c.in-Ok.ensures.does.fuses
      (replied_kind (session_behind None lines) c.args.line.now c.in-Ok.reply c.args.system.now c.line.new.self here c.in-Ok.ensures.does.kinds) c.in-Ok.ensures.does.judged c.in-Ok.ensures.does.moved;
}

pub returns-in-Err-Write-clause-goes : goal.returns-in-Err-Write-clause-goes
returns-in-Err-Write-clause-goes g c = λ layout lines replies start laid here went. record {
  reply = c.in-Ok.reply;
  wrote = c.take.ensures.part (is_err c.take.result c.in-Err-Write.field-0 Write c.in-Err-Write.is c.in-Err-Write.field-0-is);
  went = went_half (run_laws c.volumes_move.ensures.go_on c.step_goes_on.ensures c.no_point_falls.ensures) g.D.Disk.tells g.D.Disk.files g.D.Disk.counts layout lines replies c.args.line.now start c.args.system.now c.line.new.self laid went c.in-Ok.reply c.in-Ok.ensures.does.performs
      (stops_of g.D.Disk.counts c.args.system.now c.line.new.self c.args.line.now c.in-Ok.reply c.in-Ok.ensures.does.cause) c.in-Ok.ensures.does.fuses
      (replied_kind (session_behind None lines) c.args.line.now c.in-Ok.reply c.args.system.now c.line.new.self here c.in-Ok.ensures.does.kinds) c.in-Ok.ensures.does.judged c.in-Ok.ensures.does.moved;
}

pub returns-in-Err-NoMemory-clause-goes : goal.returns-in-Err-NoMemory-clause-goes
returns-in-Err-NoMemory-clause-goes g c = λ layout lines replies start laid here went.
    let none = is_err c.take.result c.in-Err-NoMemory.field-0 NoMemory c.in-Err-NoMemory.is c.in-Err-NoMemory.field-0-is in
    record {
      wrote = c.take.ensures.unwritten none;
      went = broke_after (run_laws c.volumes_move.ensures.go_on c.step_goes_on.ensures c.no_point_falls.ensures) g.D.Disk.tells g.D.Disk.files g.D.Disk.counts layout lines replies c.args.line.now start c.args.system.now c.line.new.self laid went c.in-Ok.reply c.in-Ok.ensures.does.performs
          (stops_of g.D.Disk.counts c.args.system.now c.line.new.self c.args.line.now c.in-Ok.reply c.in-Ok.ensures.does.cause) c.in-Ok.ensures.does.fuses c.in-Ok.ensures.does.laid c.requires.names c.requires.fits (c.take.ensures.done none);
    }

pub returns-in-Ok-take-clause-more : goal.returns-in-Ok-take-clause-more
returns-in-Ok-take-clause-more g c = ap node_of c.in-Ok.ensures.does.moved.session ∙ behind_node c.args.system.now.session c.args.line.now c.in-Ok.reply

pub returns-in-Ok-take-clause-disks : goal.returns-in-Ok-take-clause-disks
returns-in-Ok-take-clause-disks g c = λ node i.
    returned_reply g.D.Disk.counts (layout_of c.args.system.now) (disk_of c.args.system.now) (disk_of c.line.new.self) (used_by c.args.system.now.session c.args.line.now) c.args.line.now c.in-Ok.reply c.in-Ok.ensures.does.cause node i

pub returns-in-Err-Write-clause-disks : goal.returns-in-Err-Write-clause-disks
returns-in-Err-Write-clause-disks g c = λ node i.
    returned_reply g.D.Disk.counts (layout_of c.args.system.now) (disk_of c.args.system.now) (disk_of c.line.new.self) (used_by c.args.system.now.session c.args.line.now) c.args.line.now c.in-Ok.reply c.in-Ok.ensures.does.cause node i

pub returns-in-Err-NoMemory-clause-disks : goal.returns-in-Err-NoMemory-clause-disks
returns-in-Err-NoMemory-clause-disks g c = λ node i.
    returned_reply g.D.Disk.counts (layout_of c.args.system.now) (disk_of c.args.system.now) (disk_of c.line.new.self) (used_by c.args.system.now.session c.args.line.now) c.args.line.now c.in-Ok.reply c.in-Ok.ensures.does.cause node i

pub of_node-requires : goal.of_node-requires
of_node-requires g c = c.in-Err.ensures.does.cause.1

pub returns-in-Err-clause-goes : goal.returns-in-Err-clause-goes
returns-in-Err-clause-goes g c = λ layout lines replies start laid here went.
    subst (λ (f : RunFault). LineEnds (status_of_run f) (g.A.Answering.given c.args.out.now c.args.out.now) g.D.Disk.tells g.D.Disk.counts layout lines replies c.args.line.now start (disk_of c.line.new.self)
    (λ (s : State). IsAtState g.D.Disk.files layout s c.line.new.self) (λ (s : State). DisksStandFor g.D.Disk.files layout s c.line.new.self) (StandsAs c.line.new.self)) (sym c.of_node.ensures)
    (off_ends (fault_of_node c.in-Err.fault) (not_write c.in-Err.fault.node c.in-Err.fault.fault) (g.A.Answering.given c.args.out.now c.args.out.now) g.D.Disk.tells g.D.Disk.counts layout lines replies c.args.line.now start (disk_of c.line.new.self)
    (λ (s : State). IsAtState g.D.Disk.files layout s c.line.new.self) (λ (s : State). DisksStandFor g.D.Disk.files layout s c.line.new.self) (StandsAs c.line.new.self)
    (record {
      wrote = g.met.A.Answering.stays c.args.out.now;
      went = broke_off (run_laws c.volumes_move.ensures.go_on c.step_goes_on.ensures c.no_point_falls.ensures) g.D.Disk.tells g.D.Disk.files g.D.Disk.counts layout lines replies c.args.line.now start c.args.system.now c.line.new.self laid went c.in-Err.fault c.in-Err.ensures.does.cause.0 c.in-Err.ensures.does.performs c.in-Err.ensures.does.cause.1 c.in-Err.ensures.does.fuses c.requires.names c.requires.fits;
    }))

pub returns-in-Err-clause-named : goal.returns-in-Err-clause-named
returns-in-Err-clause-named g c = subst (λ (f : RunFault). NamesUsedDisk (layout_of c.args.system.now) (status_of_run f)) (sym c.of_node.ensures)
    (names_used (layout_of c.args.system.now) c.in-Err.fault.node c.in-Err.fault.fault c.in-Err.ensures.does.cause.0.0 c.in-Err.ensures.does.cause.0.1)

pub returns-in-Err-clause-disks : goal.returns-in-Err-clause-disks
returns-in-Err-clause-disks g c = λ node i.
    subst (λ (f : RunFault). Returned g.D.Disk.counts (is_behind (status_of_run f) node i) (ending_at (status_of_run f) node i) (disk_of c.args.system.now node i) (disk_of c.line.new.self node i)) (sym c.of_node.ensures)
    (returned_failing g.D.Disk.counts (layout_of c.args.system.now) (disk_of c.args.system.now) (disk_of c.line.new.self) c.args.line.now c.in-Err.fault.node c.in-Err.fault.fault c.in-Err.ensures.does.cause.0.0 c.in-Err.ensures.does.cause.1 c.in-Err.ensures.does.cause.0.1
    c.in-Err.ensures.does.cause.0.2.0 c.in-Err.ensures.does.cause.0.2.1.0 c.in-Err.ensures.does.cause.0.2.1.1
    (system_there g.D.Disk.tells g.D.Disk.files g.D.Disk.counts c.args.system.now c.requires.serves) node i)
