use Rattle.std.proofs.Common.{refl, sym, subst}
use Rattle.rdf_model.specs.Contents.{nothing}
use Rattle.rdf_model.specs.Trail.{open_in}
use Rattle.rdf_model.specs.Legal.{Legal}
use Rattle.audit_trail.specs.InUse.{trail_of}
use Rattle.active_txns.specs.Tells.{Tells}
use Rattle.tmf_core.proofs.TmfLaws.{runs_with}
use Rattle.tmf_core.proofs.JoinLaws.{open_run}
use Rattle.tmf_core.proofs.tmf.Tmf.join.Goals as goal

pub returns-in-Ok-clause-runs : goal.returns-in-Ok-clause-runs
returns-in-Ok-clause-runs g c = λ tells legal stored.
    runs_with g.D.Disk.files _ _ _ refl stored (open_run (trail_of c.args.trail) legal)
    (subst (λ l. Tells c.in-Ok.txns l (open_in l)) c.records.ensures (c.in-Ok.ensures (subst (λ l. Legal nothing l) (sym c.records.ensures) legal)))
