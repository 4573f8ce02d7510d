use Rattle.tmf_recovery.proofs.RedoLemmas.{redone_shows}
use Rattle.tmf_recovery.proofs.laws.redo_shows.Goals as goal

pub returns : goal.returns
returns c = redone_shows c.images_change.ensures
