use Rattle.std.proofs.Common.{◌≡◌, inl, inr, List, None, Result, Err, sym, ap, ◌∙◌, subst}
use Rattle.rdf_types.specs.declared.layout.Layout.{Layout}
use Rattle.plan_lang.specs.declared.lines.Line.{Line}
use Rattle.plan_lang.specs.Sessions.{KeepSessions}
use Rattle.std.specs.List.{AllPass}
use Rattle.rdf_core.specs.Allowed.{has_names}
use Rattle.rdf_core.specs.AllowedLaws.{plan_named}
use Rattle.rdf_core.specs.State.{State, blank}
use Rattle.rdf_system.specs.Place.{disk_at}
use Rattle.rdf_system.specs.Stances.{stances_of, fresh, StandsAs}
use Rattle.rdf_system.specs.States.{disk_of, layout_of, IsAtState, DisksStandFor}
use Rattle.rdf_run.specs.declared.run_fault.RunFault.{RunFault}
use Rattle.rdf_run.specs.declared.status.Status.{Status}
use Rattle.rdf_run.specs.declared.status.Status.TheVariants.{Done, WriteFault}
use Rattle.rdf_run.specs.RunFaults.{status_in, Spares}
use Rattle.rdf_run.specs.Statuses.{SinkAfter, IsSound, NamesUsedDisk}
use Rattle.rdf_run.specs.Returned.{AllReturn}
use Rattle.rdf_run.specs.Plans.{AreOff, AreOffOrSpared}
use Rattle.rdf_run.specs.Going.{ByStatus, RunEnds}
use Rattle.rdf_run.proofs.Along.{kept_same, kept_cut, handed, all_same, all_cut, fine_same}
use Rattle.rdf_run.proofs.Endings.{off_by}
use Rattle.rdf_run.proofs.Returns.{cut_off}
use Rattle.rdf_run.proofs.plans.perform_started.Goals as goal

pub perform_lines-system-requires-clause-sessions : goal.perform_lines-system-requires-clause-sessions
perform_lines-system-requires-clause-sessions g c κs within = subst (λ (ls : List Line). KeepSessions None ls) (sym c.all.ensures) c.requires.is.sessions

pub perform_lines-system-requires-clause-names : goal.perform_lines-system-requires-clause-names
perform_lines-system-requires-clause-names g c κs within = subst (λ (ls : List Line). AllPass (has_names (layout_of c.args.system)) ls) (sym c.all.ensures)
    (subst (λ (l : Layout). AllPass (has_names l) c.args.plan.now.lines) (sym c.requires.started.laid) (plan_named c.args.plan.now c.requires.is))

pub perform_lines-system-requires-clause-blank : goal.perform_lines-system-requires-clause-blank
perform_lines-system-requires-clause-blank g c κs within = λ t. subst (λ (l : Layout). IsAtState g.D.Disk.files l (blank l) c.args.system) (sym c.requires.started.laid) (c.requires.started.at t)

pub perform_lines-system-requires-clause-begun : goal.perform_lines-system-requires-clause-begun
perform_lines-system-requires-clause-begun g c κs within = subst (λ (l : Layout). stances_of c.args.system ≡ fresh l) (sym c.requires.started.laid) c.requires.started.stands

-- a run that ended so
abbrev ended_with : RunFault → Result (Unit {0}) RunFault
ended_with f = Err f

pub returns-in-Ok : goal.returns-in-Ok
returns-in-Ok g c =
    let counts = g.D.Disk.counts in
    let layout = c.args.plan.now.layout in
    let laid = c.requires.started.laid in
    let sys = c.args.system in
    let now = c.perform_lines-system.result.system in
    let racks = c.close.result in
    let Out = g.A.Answering.given c.args.out.now c.perform_lines-system.new.out in
    let is = ap (λ (r : Result (Unit {0}) RunFault). status_in r) c.in-Ok.is in
    record {
      ends = handed Done Out g.D.Disk.tells g.D.Disk.files counts layout c.args.plan.now.lines sys now racks laid (kept_same g.D.Disk.tells counts layout (disk_of now) (disk_at racks) c.close.ensures.places)
          (λ t s at. c.close.ensures.stands t layout s at) (λ t s at. c.close.ensures.keeps t layout s at)
          (subst (λ (ls : List Line). RunEnds Done Out g.D.Disk.tells counts (layout_of sys) ls (disk_of sys) (disk_of now) (λ (s : State). IsAtState g.D.Disk.files (layout_of sys) s now) (λ (s : State). DisksStandFor g.D.Disk.files (layout_of sys) s now) (StandsAs now)) c.all.ensures
          (subst (λ (k : Status). RunEnds k Out g.D.Disk.tells counts (layout_of sys) c.all.result.now (disk_of sys) (disk_of now) (λ (s : State). IsAtState g.D.Disk.files (layout_of sys) s now) (λ (s : State). DisksStandFor g.D.Disk.files (layout_of sys) s now) (StandsAs now)) is c.perform_lines-system.ensures.ends));
      named = tt;
      off = tt;
      returns = record {
        sink = subst (λ (k : Status). SinkAfter k (g.A.Answering.faults c.args.out.now) (g.A.Answering.faults c.perform_lines-system.new.out)) is c.perform_lines-system.ensures.leaves.keeps.sink;
        disks = all_same counts Done (disk_of sys) (disk_of now) (disk_at racks) (subst (λ (k : Status). AllReturn counts k (disk_of sys) (disk_of now)) is c.perform_lines-system.ensures.leaves.disks) c.close.ensures.places;
        sound = λ t. tt;
      };
      full = c.close.ensures.full;
    }

pub returns-then-is_unmet : goal.returns-then-is_unmet
returns-then-is_unmet g c =
    let counts = g.D.Disk.counts in
    let layout = c.args.plan.now.layout in
    let laid = c.requires.started.laid in
    let sys = c.args.system in
    let r = c.perform_lines-system.result in
    let now = r.system in
    let racks = c.close-then-is_unmet.result in
    let Out = g.A.Answering.given c.args.out.now c.perform_lines-system.new.out in
    let met = c.in-Err.is ∙ ap (λ (f : RunFault). ended_with f) (c.is_unmet.ensures c.if-is_unmet.true) in
    let is = ap (λ (r : Result (Unit {0}) RunFault). status_in r) met in
    let spared = subst (λ (r : Result (Unit {0}) RunFault). Spares counts r (disk_of sys) (disk_of now)) met c.perform_lines-system.ensures.leaves.spared in
    record {
      ends = handed WriteFault Out g.D.Disk.tells g.D.Disk.files counts layout c.args.plan.now.lines sys now racks laid (kept_same g.D.Disk.tells counts layout (disk_of now) (disk_at racks) c.close-then-is_unmet.ensures.places)
          (λ t s at. c.close-then-is_unmet.ensures.stands t layout s at) (λ t s at. c.close-then-is_unmet.ensures.keeps t layout s at)
          (subst (λ (ls : List Line). RunEnds WriteFault Out g.D.Disk.tells counts (layout_of sys) ls (disk_of sys) (disk_of now) (λ (s : State). IsAtState g.D.Disk.files (layout_of sys) s now) (λ (s : State). DisksStandFor g.D.Disk.files (layout_of sys) s now) (StandsAs now)) c.all.ensures
          (subst (λ (k : Status). RunEnds k Out g.D.Disk.tells counts (layout_of sys) c.all.result.now (disk_of sys) (disk_of now) (λ (s : State). IsAtState g.D.Disk.files (layout_of sys) s now) (λ (s : State). DisksStandFor g.D.Disk.files (layout_of sys) s now) (StandsAs now)) is c.perform_lines-system.ensures.ends));
      named = tt;
      off = inr (fine_same counts (disk_of sys) (disk_of now) (disk_at racks) spared c.close-then-is_unmet.ensures.places);
      returns = record {
        sink = subst (λ (k : Status). SinkAfter k (g.A.Answering.faults c.args.out.now) (g.A.Answering.faults c.perform_lines-system.new.out)) is c.perform_lines-system.ensures.leaves.keeps.sink;
        disks = all_same counts WriteFault (disk_of sys) (disk_of now) (disk_at racks) (subst (λ (k : Status). AllReturn counts k (disk_of sys) (disk_of now)) is c.perform_lines-system.ensures.leaves.disks) c.close-then-is_unmet.ensures.places;
        sound = λ t. tt;
      };
      full = c.close-then-is_unmet.ensures.full;
    }

pub returns-else-is_unmet : goal.returns-else-is_unmet
returns-else-is_unmet g c =
    let counts = g.D.Disk.counts in
    let layout = c.args.plan.now.layout in
    let laid = c.requires.started.laid in
    let sys = c.args.system in
    let now = c.perform_lines-system.result.system in
    let racks = c.shut.result in
    let of : layout_of now ≡ layout = c.perform_lines-system.ensures.leaves.keeps.laid ∙ laid in
    let Out = g.A.Answering.given c.args.out.now c.perform_lines-system.new.out in
    let s = c.ended_by.result in
    let is = ap (λ (r : Result (Unit {0}) RunFault). status_in r) c.in-Err.is ∙ sym c.ended_by.ensures in
    record {
      ends = handed s Out g.D.Disk.tells g.D.Disk.files counts layout c.args.plan.now.lines sys now racks laid (kept_cut g.D.Disk.tells counts layout (layout_of now) (disk_of now) (disk_at racks) of c.shut.ensures.places)
          (λ t s at. c.shut.ensures.keeps t layout s (c.stands.ensures t layout s at)) (λ t s at. c.shut.ensures.keeps t layout s at)
          (subst (λ (ls : List Line). RunEnds s Out g.D.Disk.tells counts (layout_of sys) ls (disk_of sys) (disk_of now) (λ (s : State). IsAtState g.D.Disk.files (layout_of sys) s now) (λ (s : State). DisksStandFor g.D.Disk.files (layout_of sys) s now) (StandsAs now)) c.all.ensures
          (subst (λ (k : Status). RunEnds k Out g.D.Disk.tells counts (layout_of sys) c.all.result.now (disk_of sys) (disk_of now) (λ (s : State). IsAtState g.D.Disk.files (layout_of sys) s now) (λ (s : State). DisksStandFor g.D.Disk.files (layout_of sys) s now) (StandsAs now)) is c.perform_lines-system.ensures.ends));
      named = subst (λ (l : Layout). NamesUsedDisk l s) laid (subst (λ (k : Status). NamesUsedDisk (layout_of sys) k) is c.perform_lines-system.ensures.leaves.named);
      off = subst (λ (k : Status). ByStatus k (Unit {0}) (AreOffOrSpared counts layout (disk_of sys) racks) (AreOff counts layout racks)) (sym c.ended_by.ensures)
          (off_by c.in-Err.fault (AreOffOrSpared counts layout (disk_of sys) racks) (AreOff counts layout racks) (λ off. inl off) (cut_off counts (layout_of now) layout (disk_of now) racks of c.shut.ensures.places));
      returns = record {
        sink = subst (λ (k : Status). SinkAfter k (g.A.Answering.faults c.args.out.now) (g.A.Answering.faults c.perform_lines-system.new.out)) is c.perform_lines-system.ensures.leaves.keeps.sink;
        disks = all_cut counts s (disk_of sys) (disk_of now) (disk_at racks) (layout_of now) (subst (λ (k : Status). AllReturn counts k (disk_of sys) (disk_of now)) is c.perform_lines-system.ensures.leaves.disks) c.shut.ensures.places;
        sound = λ t. subst (λ (k : Status). IsSound k) is (c.perform_lines-system.ensures.sound t);
      };
      full = c.shut.ensures.full;
    }
