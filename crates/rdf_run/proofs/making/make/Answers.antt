use Rattle.std.proofs.Common.{◌⊎◌, refl, subst}
use Rattle.plan_lang.specs.declared.lines.Plan.{Plan}
use Rattle.plan_gen.specs.Generated.{generated_plan}
use Rattle.rdf_run.specs.declared.status.Status.{Status}
use Rattle.rdf_run.specs.Making.{noted, MakesPlan}
use Rattle.rdf_run.specs.Plans.{IsRefused, IsPerformed}
use Rattle.rdf_run.proofs.Made.{all_made, part_made, no_sink}
use Rattle.rdf_system.specs.Place.{disk_at}
use Rattle.rdf_run.specs.Returned.{AllReturn}
use Rattle.rdf_run.specs.declared.status.Status.TheVariants.{NoMemory}
use Rattle.rdf_run.proofs.Completing.{made_begun}
use Rattle.rdf_run.proofs.Endings.{returns_back, none_told, done_fine, diskless_sound}
use Rattle.rdf_run.proofs.making.make.Goals as goal

pub returns-in-Done-clause-makes : goal.returns-in-Done-clause-makes
returns-in-Done-clause-makes g c =
    let written = g.K.Sink.written c.args.out.now in
    let now_written = g.K.Sink.written c.write_summary.new.out in
    let racks = c.args.racks in
    let now_racks = c.perform_plan-ended.result.racks in
    let before = c.new-tally.result in
    let after = c.perform_plan-ended.new.out in
    subst (λ (p : Plan). MakesPlan g.K.Sink.tells g.D.Disk.tells g.D.Disk.files g.D.Disk.counts p c.write_summary.result written now_written racks now_racks) c.in-Ok.ensures.made
    (all_made g.K.Sink.tells g.D.Disk.tells g.D.Disk.files g.D.Disk.counts c.in-Ok.plan racks now_racks before after written now_written c.write_summary.result c.new-tally.ensures
    (subst (λ (s : Status). IsRefused (noted before after) g.D.Disk.tells g.D.Disk.files g.D.Disk.counts c.in-Ok.plan.layout s racks now_racks ⊎ IsPerformed (noted before after) g.D.Disk.tells g.D.Disk.files g.D.Disk.counts c.in-Ok.plan s racks now_racks)
    c.in-Done.is c.perform_plan-ended.ensures.ends) c.write_summary.ensures.ends)

pub returns : goal.returns
returns g c =
    let written = g.K.Sink.written c.args.out.now in
    let racks = c.args.racks in
    let now_racks = c.perform_plan-ended.result.racks in
    let s = c.perform_plan-ended.result.status in
    let made = subst (λ (p : Plan). MakesPlan g.K.Sink.tells g.D.Disk.tells g.D.Disk.files g.D.Disk.counts p s written written racks now_racks) c.in-Ok.ensures.made
    (part_made g.K.Sink.tells g.D.Disk.tells g.D.Disk.files g.D.Disk.counts c.in-Ok.plan racks now_racks c.new-tally.result c.perform_plan-ended.new.out written s c.in_default.not-Done c.perform_plan-ended.ensures.ends) in
    record {
      makes = made;
      begun = made_begun g.K.Sink.tells g.D.Disk.tells g.D.Disk.files g.D.Disk.counts (generated_plan c.args.seed c.args.txns) s written written racks now_racks made;
      returns = record {
        sink = no_sink s (g.K.Sink.faults c.args.out.now) c.perform_plan-ended.ensures.returns.sink;
        disks = c.perform_plan-ended.ensures.returns.disks;
        sound = c.perform_plan-ended.ensures.returns.sound;
      };
    }

pub returns-in-Err-clause-returns : goal.returns-in-Err-clause-returns
returns-in-Err-clause-returns g c = returns_back g.D.Disk.counts g.D.Disk.tells NoMemory (g.K.Sink.faults c.args.out.now) (g.K.Sink.faults c.args.out.now) tt refl tt (disk_at c.args.racks)

pub returns-in-Done-clause-returns : goal.returns-in-Done-clause-returns
returns-in-Done-clause-returns g c =
    let racks = c.args.racks in
    let now_racks = c.perform_plan-ended.result.racks in
    record {
      sink = c.write_summary.ensures.sink;
      disks = none_told g.D.Disk.counts c.write_summary.result c.write_summary.ensures.diskless (disk_at racks) (disk_at now_racks)
          (done_fine g.D.Disk.counts (disk_at racks) (disk_at now_racks) (subst (λ (s : Status). AllReturn g.D.Disk.counts s (disk_at racks) (disk_at now_racks)) c.in-Done.is c.perform_plan-ended.ensures.returns.disks));
      sound = λ t. diskless_sound c.write_summary.result c.write_summary.ensures.diskless;
    }
