use Rattle.std.proofs.Common.{◌≡◌, inl, inr, ◌∙◌, sym, ap, subst, length, List, ℕ, true, arith}
use Rattle.plan_lang.specs.Grammar.{IsBad}
use Rattle.rdf_run.specs.declared.status.Status.{Status}
use Rattle.rdf_run.specs.declared.status.Status.TheVariants as status
use Rattle.rdf_run.specs.Statuses.{IsUnbegun, IsBadPlan}
use Rattle.rdf_monitor.specs.Output.{texts_out}
use Rattle.rdf_system.specs.Place.{disk_at}
use Rattle.rdf_run.specs.Calls.{Returns}
use Rattle.rdf_run.proofs.Endings.{lift_bytes, source_after, source_returns}
use Rattle.rdf_run.proofs.running.run_plan.Goals as goal

-- a status before the first look, which is none of a bad plan
never : {X : Type 0} (s t : Status) → IsUnbegun t → (IsUnbegun s → IsBadPlan s) → (IsBadPlan t → ⊥) → s ≡ t → X
never s t u not ne e = absurd (ne (subst (λ (x : Status). IsBadPlan x) e (not (subst (λ (x : Status). IsUnbegun x) (sym e) u))))

pub returns-in-Ok-clause-known : goal.returns-in-Ok-clause-known
returns-in-Ok-clause-known g c = λ e. never c.run_bytes.result.status status.BadWords tt (λ u. (c.run_bytes.ensures.unbegun u).0) (λ b. b) e

pub returns-in-Ok-clause-performs : goal.returns-in-Ok-clause-performs
returns-in-Ok-clause-performs g c = λ begun.
    let ok = c.in-Ok.ensures.ok in
    let r = c.run_bytes.result in
    elim (c.run_bytes.ensures.performs begun) [
      | inl h ↦
          inl (lift_bytes (texts_out g.K.Sink.tells (g.K.Sink.written c.args.out.now) (g.K.Sink.written c.run_bytes.new.out)) g.S.Source.tells g.D.Disk.tells g.D.Disk.files g.D.Disk.counts r.status c.deref.result.now (g.S.Source.left c.args.plan.now) (g.S.Source.left c.read_all.new.source)
          c.args.racks r.racks h (λ t. let within = c.in-Ok.ensures.within in omega (arith, within, ap length (ok t).0)) (λ t. c.deref.ensures.value ∙ (ok t).0) (λ t. (ok t).1))
      | inr n ↦ inr n
    ]

pub returns-in-Ok-clause-takes : goal.returns-in-Ok-clause-takes
returns-in-Ok-clause-takes g c = record {
  bad_plan = λ tells line why e.
      let ok = c.in-Ok.ensures.ok tells in
      let few = c.in-Ok.ensures.within in
      record {
        few = omega (arith, few, ap length ok.0);
        bad = subst (λ (b : List ℕ). IsBad true b line why) (c.deref.ensures.value ∙ ok.0) (c.run_bytes.ensures.bad_plan line why e);
        all = ok.1;
      };
  too_long = λ tells e. never c.run_bytes.result.status status.TooLong tt (λ u. (c.run_bytes.ensures.unbegun u).0) (λ b. b) e;
  took = c.read_all.ensures.took;
  source = source_after c.run_bytes.result.status (g.S.Source.faults c.args.plan.now) (g.S.Source.faults c.read_all.new.source) (λ u. (c.run_bytes.ensures.unbegun u).0) c.in-Ok.ensures.cause;
}

pub returns-in-Err-clause-returns : goal.returns-in-Err-clause-returns
returns-in-Err-clause-returns g c =
    subst (λ (s : Status). Returns g.D.Disk.tells g.D.Disk.counts s (g.K.Sink.faults c.args.out.now) (g.K.Sink.faults c.args.out.now) (disk_at c.args.racks) (disk_at c.args.racks)) (sym c.status_of_read.ensures)
    (source_returns g.D.Disk.counts g.D.Disk.tells c.in-Err.fault (g.K.Sink.faults c.args.out.now) (disk_at c.args.racks))
