use Rattle.rdf_core.proofs.Losses.{stays_lost, once_lost}
use Rattle.rdf_core.proofs.laws.loss_lasts.Goals as goal

pub returns : goal.returns
returns c = record { lost = stays_lost; lose = once_lost }
