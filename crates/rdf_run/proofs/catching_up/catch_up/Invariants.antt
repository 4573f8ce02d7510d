use Rattle.std.proofs.Common.{◌≡◌, take}
use Rattle.rdf_run.specs.Predicted.{risen_in}
use Rattle.rdf_run.proofs.catching_up.catch_up.Given as goal

abbrev pub invariant-loop-number : goal.invariant-loop-number
invariant-loop-number l = record {
  risen : l.machine.state ≡ risen_in (take l.number l.layout.protect) l.fn.machine.state l.fn.machine.state.session;
  layout : l.machine.layout ≡ l.fn.machine.layout;
}
