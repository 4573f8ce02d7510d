use Rattle.std.proofs.Common.{◌≡◌, drop, fold}
use Rattle.primary_machine.specs.Backouts.{without_aborted}
use Rattle.primary_machine.proofs.aborting.forget_aborted.Given as goal

abbrev pub invariant-loop-entry : goal.invariant-loop-entry
invariant-loop-entry l = fold without_aborted l.founds (drop l.entry-index l.entry-items) ≡ fold without_aborted l.fn.founds (drop l.from l.trail)
