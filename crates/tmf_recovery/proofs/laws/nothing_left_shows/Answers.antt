use Rattle.tmf_recovery.proofs.RedoLemmas.{left_shows}
use Rattle.tmf_recovery.proofs.laws.nothing_left_shows.Goals as goal

pub returns : goal.returns
returns c = left_shows c.images_change.ensures
