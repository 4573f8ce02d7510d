use Rattle.rdf_machine.specs.Index.{IsIndexOf}
use Rattle.machine_tests.proofs.tests.past_values.count_right.Given as goal

abbrev pub invariant-loop-upto : goal.invariant-loop-upto
invariant-loop-upto l = IsIndexOf l.trail l.index
