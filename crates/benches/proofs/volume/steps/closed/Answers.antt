use Rattle.std.proofs.Common.{sym, ap, subst}
use Rattle.rdf_disk.specs.Files.{Disk}
use Rattle.rdf_disk.specs.Outcomes.{Durably}
use Rattle.rdf_volume.specs.Standing.{StandsForSome}
use Rattle.rdf_volume.specs.Views.{rows_of, restart_of}
use Rattle.benches.proofs.volume.steps.closed.Goals as goal

pub returns : goal.returns
returns g c = λ tells.
    subst (λ (d : Disk). Durably d StandsForSome) (sym (ap g.D.Disk.files c.close.ensures))
    (λ d may. (rows_of c.args.volume, (restart_of c.args.volume, c.in_use_stands.ensures c.args.volume (c.requires tells) d may)))
