use Rattle.updaters.proofs.Between.{part_fits}
use Rattle.updaters.proofs.laws.applied_fits.Goals as goal

pub returns : goal.returns
returns c = part_fits c.images_change.ensures c.fits_redo.ensures
