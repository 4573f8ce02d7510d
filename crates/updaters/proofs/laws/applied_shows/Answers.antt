use Rattle.updaters.proofs.Between.{part_shows}
use Rattle.updaters.proofs.laws.applied_shows.Goals as goal

pub returns : goal.returns
returns c = part_shows c.images_change.ensures
