use Rattle.keyed_overlay.proofs.ListLemmas.{rises_if, rises_then}
use Rattle.keyed_overlay.proofs.laws.rises_places.Goals as goal

pub returns-clause-if_so : goal.returns-clause-if_so
returns-clause-if_so c = rises_if

pub returns-clause-then_so : goal.returns-clause-then_so
returns-clause-then_so c = rises_then
