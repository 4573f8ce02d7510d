use Rattle.std.proofs.Common.{sym, subst}
use Rattle.rdf_disk.specs.Outcomes.{Durably}
use Rattle.audit_trail.specs.InUse.{trail_of}
use Rattle.rdf_volume.specs.Views.{rows_of, restart_of, disk_of}
use Rattle.rdf_primary.proofs.OpeningLaws.{redone_shows, left_redone}
use Rattle.rdf_primary.proofs.opening.caught_up.Goals as goal
use Rattle.tmf_core.specs.Stores.{StandsWithin}

pub returns-in-Ok-clause-shows : goal.returns-in-Ok-clause-shows
returns-in-Ok-clause-shows g c = λ tells.
    redone_shows g.D.Disk.files (trail_of c.args.trail.now) c.args.vol c.args.volume c.redo.new.volume (c.requires.behind tells) (c.in-Ok.ensures.ok tells) c.in-Ok.ensures.shows c.redo.ensures.upto

pub returns-in-Err-clause-keeps : goal.returns-in-Err-clause-keeps
returns-in-Err-clause-keeps g c = λ tells.
    let behind = c.requires.behind tells in
    subst (λ d. Durably (g.D.Disk.files d) (StandsWithin c.args.vol (trail_of c.args.trail.now))) (sym c.close.ensures)
    (left_redone (g.D.Disk.files (disk_of c.redo.new.volume)) (trail_of c.args.trail.now) c.args.vol (restart_of c.args.volume) (rows_of c.args.volume) c.redo_shows.ensures behind.behind behind.stood (c.in-Err.ensures.err tells))
