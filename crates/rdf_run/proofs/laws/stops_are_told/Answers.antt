use Rattle.rdf_run.proofs.Told.{told_sum, untold_none}
use Rattle.rdf_run.proofs.laws.stops_are_told.Goals as goal

pub returns-clause-sums : goal.returns-clause-sums
returns-clause-sums c = λ layout lines replies stops told node. told_sum layout lines replies stops told node

pub returns-clause-none : goal.returns-clause-none
returns-clause-none c = λ layout lines replies stops told node never i. untold_none layout lines replies stops told node never i
