use Rattle.std.proofs.Common.{rules, ℕ, List, Some, None, Ok, Err, length, drop, refl, sym, ◌∙◌, subst}
use Rattle.std.specs.List.{AllByRecursion}
use Rattle.rdf_model.specs.Lines.{after_restart}
use Rattle.rdf_types.specs.declared.records.Record.{Record}
use Rattle.tmf_core.specs.Stores.{Left, IsPlaced}
use Rattle.tmf_core.specs.CauseLaws.{same_volumes}
use Rattle.tmf_core.specs.Disks.{disks_of}
use Rattle.tmf_core.specs.States.{tmf_trail}
use Rattle.node_faults.specs.Openings.{AreCaused}
use Rattle.rdf_primary.specs.Restarting.{BreaksUp}
use Rattle.rdf_primary.specs.Standing.{IsTrailOf}
use Rattle.rdf_primary.proofs.BackoutLaws.{caused_disks}
use Rattle.rdf_primary.proofs.RestartLaws.{breaks_within}
use Rattle.rdf_primary.proofs.backouts.backed_out.Goals as goal

pub returns-in-Ok : goal.returns-in-Ok
returns-in-Ok g c = record {
  ok = search rules;
  says = search rules;
  up = search rules;
  sized = same_volumes {T = ℕ} g.D.Disk.counts (Ok c.in-Ok.many) c.args.tmf.store c.back_out_all.new.tmf.store c.in-Ok.ensures.cause;
  cause = caused_disks g.D.Disk.counts None {T = ℕ} (Ok c.in-Ok.many) c.args.tmf.store c.back_out_all.new.tmf.store (λ n. refl) c.in-Ok.ensures.cause;
}

pub returns-in-Err : goal.returns-in-Err
returns-in-Err g c = record {
  err = λ tells layout a sized down is.
      let runs = (c.requires.runs tells).runs in
      let many = same_volumes {T = ℕ} g.D.Disk.counts (Err c.in-Err.fault) c.args.tmf.store c.back_out_all.new.tmf.store c.in-Err.ensures.cause in
      subst (λ ds. BreaksUp g.D.Disk.files layout a ds) (sym c.close.ensures)
      (breaks_within c.restart_is_legal.ensures g.D.Disk.files layout a c.back_out_all.new.tmf.store (sized ∙ sym many) down
      (subst (λ (t : List Record). IsTrailOf layout t) (sym is) (record { legal = runs.running.legal; placed = subst (λ n. AllByRecursion (λ r. IsPlaced n r) (tmf_trail c.args.tmf)) (sym sized) runs.stored.placed }))
      (subst (λ (t : List Record). Left g.D.Disk.files t (drop (length t) (after_restart t)) c.back_out_all.new.tmf.store) (sym is) (c.in-Err.ensures.err tells)));
  cause = subst (λ ds. AreCaused g.D.Disk.counts (Some c.in-Err.fault) (disks_of c.args.tmf.store.trail c.args.tmf.store.volumes.items) ds) (sym c.close.ensures)
      (caused_disks g.D.Disk.counts (Some c.in-Err.fault) {T = ℕ} (Err c.in-Err.fault) c.args.tmf.store c.back_out_all.new.tmf.store (λ n. refl) c.in-Err.ensures.cause);
  named = c.in-Err.ensures.cause.0;
  sound = search rules;
}
