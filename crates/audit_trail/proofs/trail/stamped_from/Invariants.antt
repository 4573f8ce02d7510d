use Rattle.std.proofs.Common.{◌≡◌, ◌++◌, ◌+◌, drop}
use Rattle.rdf_model.specs.Window.{stamped}
use Rattle.audit_trail.proofs.trail.stamped_from.Given as goal

abbrev pub invariant-loop-rec : goal.invariant-loop-rec
invariant-loop-rec l = record {
  split : stamped l.from l.few ≡ l.found.items ++ stamped l.pos (drop l.rec-index l.few);
  place : l.pos ≡ l.from + l.rec-index;
}
