use Rattle.std.proofs.Common.{ap}
use Rattle.primary_machine.specs.Kept.{by_of}
use Rattle.primary_machine.proofs.places.Places.last_txn.Goals as goal

pub returns-in-Some : goal.returns-in-Some
returns-in-Some c = ap by_of c.in-Some.ensures

pub returns-in-None : goal.returns-in-None
returns-in-None c = ap by_of c.in-None.ensures
