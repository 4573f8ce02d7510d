use Rattle.std.proofs.Common.{inl, refl}
use Rattle.rdf_monitor.specs.Output.{texts_out}
use Rattle.rdf_system.specs.Place.{disk_at}
use Rattle.rdf_run.specs.declared.status.Status.TheVariants.{NoMemory}
use Rattle.rdf_run.proofs.Endings.{ends_begun, ends_not_bad, returns_back}
use Rattle.rdf_run.proofs.running.run_bytes.Goals as goal

pub returns-in-Ok-clause-performs : goal.returns-in-Ok-clause-performs
returns-in-Ok-clause-performs g c = λ begun. inl (record {
  plan = c.in-Ok.plan;
  is = c.in-Ok.ensures.found.0;
  reads = c.in-Ok.ensures.found.1;
  ends = c.perform_plan.ensures.ends;
})

pub returns-in-Ok-clause-unbegun : goal.returns-in-Ok-clause-unbegun
returns-in-Ok-clause-unbegun g c = λ u. absurd (ends_begun (texts_out g.K.Sink.tells (g.K.Sink.written c.args.out.now) (g.K.Sink.written c.perform_plan.new.out)) g.D.Disk.tells g.D.Disk.files g.D.Disk.counts c.in-Ok.plan c.perform_plan.result.status c.args.racks c.perform_plan.result.racks c.perform_plan.ensures.ends u)

pub returns-in-Ok-clause-bad_plan : goal.returns-in-Ok-clause-bad_plan
returns-in-Ok-clause-bad_plan g c = λ line why e. absurd (ends_not_bad (texts_out g.K.Sink.tells (g.K.Sink.written c.args.out.now) (g.K.Sink.written c.perform_plan.new.out)) g.D.Disk.tells g.D.Disk.files g.D.Disk.counts c.in-Ok.plan c.perform_plan.result.status c.args.racks c.perform_plan.result.racks c.perform_plan.ensures.ends line why e)

pub returns-in-Err-Bad-clause-returns : goal.returns-in-Err-Bad-clause-returns
returns-in-Err-Bad-clause-returns g c = returns_back g.D.Disk.counts g.D.Disk.tells _ (g.K.Sink.faults c.args.out.now) (g.K.Sink.faults c.args.out.now) tt refl tt (disk_at c.args.racks)

pub returns-in-Err-NoMemory-clause-returns : goal.returns-in-Err-NoMemory-clause-returns
returns-in-Err-NoMemory-clause-returns g c = returns_back g.D.Disk.counts g.D.Disk.tells NoMemory (g.K.Sink.faults c.args.out.now) (g.K.Sink.faults c.args.out.now) tt refl tt (disk_at c.args.racks)
