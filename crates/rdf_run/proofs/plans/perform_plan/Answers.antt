use Rattle.std.proofs.Common.{inl, inr, None, refl, sym, subst}
use Rattle.rdf_core.specs.State.{State}
use Rattle.rdf_system.specs.Place.{disk_at}
use Rattle.rdf_system.specs.States.{disk_of, RacksStandFor}
use Rattle.rdf_run.specs.declared.status.Status.{Status}
use Rattle.rdf_run.specs.Statuses.{SinkAfter, IsSound}
use Rattle.rdf_run.specs.Plans.{AreOff, AreOffOrSpared}
use Rattle.rdf_run.specs.Judging.{Anyhow}
use Rattle.rdf_run.specs.Returned.{ReturnIn}
use Rattle.rdf_run.proofs.Agreeing.{performed}
use Rattle.rdf_run.proofs.Quietly.{quiet_laws}
use Rattle.rdf_run.proofs.Along.{kept_same, kept_came, run_along, all_came, off_came}
use Rattle.rdf_run.proofs.Endings.{off_so}
use Rattle.rdf_run.proofs.Returns.{returned_refused, racks_there, refused_sink, refused_sound}
use Rattle.rdf_run.proofs.plans.perform_plan.Goals as goal

pub returns-in-Ok-clause-ends : goal.returns-in-Ok-clause-ends
returns-in-Ok-clause-ends g c =
    let layout = c.args.plan.now.layout in
    let racks = c.perform_started.result.racks in
    inr (performed c.backups_agree.ensures c.first_takeovers_tell.ensures c.event_goes_on.ensures (quiet_laws c.unstopped_runs_are_quiet.ensures.run c.no_reply_names_a_stop.ensures c.replies_tell.ensures.takeovers c.replies_tell.ensures.copies) (g.A.Answering.given c.args.out.now c.perform_started.new.out) g.D.Disk.tells g.D.Disk.files g.D.Disk.counts c.args.plan.now c.requires.is c.args.racks racks c.requires.full
    c.perform_started.result.status (λ t. c.in-Ok.ensures.blank t) c.perform_started.ensures.named
    (off_so c.perform_started.result.status (AreOffOrSpared g.D.Disk.counts layout (disk_of c.in-Ok.system) racks) (AreOffOrSpared g.D.Disk.counts layout (disk_at c.args.racks) racks) (AreOff g.D.Disk.counts layout racks)
    (off_came g.D.Disk.counts layout (disk_at c.args.racks) (disk_of c.in-Ok.system) racks c.in-Ok.ensures.came) c.perform_started.ensures.off)
    (run_along c.perform_started.result.status (g.A.Answering.given c.args.out.now c.perform_started.new.out) g.D.Disk.tells g.D.Disk.counts layout c.args.plan.now.lines
    (disk_at c.args.racks) (disk_of c.in-Ok.system) (disk_at racks) (disk_at racks)
    (kept_came g.D.Disk.tells g.D.Disk.counts layout (disk_at c.args.racks) (disk_of c.in-Ok.system) c.in-Ok.ensures.came)
    (kept_same g.D.Disk.tells g.D.Disk.counts layout (disk_at racks) (disk_at racks) (λ node i. refl))
    (λ (s : State). RacksStandFor g.D.Disk.files layout s racks) (λ (s : State). RacksStandFor g.D.Disk.files layout s racks)
    (λ (s : State). RacksStandFor g.D.Disk.files layout s racks) (λ (s : State). RacksStandFor g.D.Disk.files layout s racks)
    (λ t s at. at) (λ t s at. at) Anyhow Anyhow (λ s k. k) c.perform_started.ensures.ends))

pub returns-in-Ok-clause-returns : goal.returns-in-Ok-clause-returns
returns-in-Ok-clause-returns g c = record {
  sink = c.perform_started.ensures.returns.sink;
  disks = all_came g.D.Disk.counts c.perform_started.result.status (disk_at c.args.racks) (disk_of c.in-Ok.system) (disk_at c.perform_started.result.racks) c.args.plan.now.layout c.in-Ok.ensures.came c.perform_started.ensures.returns.disks;
  sound = c.perform_started.ensures.returns.sound;
}

pub returns-in-Err : goal.returns-in-Err
returns-in-Err g c =
    let why = c.in-Err.refused.fault in
    let back = c.in-Err.ensures.back in
    record {
      ends = inl (record { why = why; is = c.status_of.ensures; named = back.named; unwritten = g.met.A.Answering.stays c.args.out.now; disks = back.back; judged = back.judged; still = back.still });
      returns = record {
        disks = record {
          session = None;
          of_backup = refl;
          each = subst (λ (status : Status). ReturnIn g.D.Disk.counts None status (disk_at c.args.racks) (disk_at c.in-Err.refused.racks)) (sym c.status_of.ensures)
              (returned_refused g.D.Disk.counts c.args.plan.now.layout (disk_at c.args.racks) (disk_at c.in-Err.refused.racks)
              (racks_there c.args.racks c.args.plan.now.layout c.requires.full) why back.named back.back);
        };
        sink = subst (λ (status : Status). SinkAfter status (g.A.Answering.faults c.args.out.now) (g.A.Answering.faults c.args.out.now)) (sym c.status_of.ensures) (refused_sink why (g.A.Answering.faults c.args.out.now));
        sound = λ t. subst (λ (status : Status). IsSound status) (sym c.status_of.ensures) (refused_sound why);
      };
    }
