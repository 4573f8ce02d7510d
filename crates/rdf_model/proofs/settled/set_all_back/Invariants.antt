use Rattle.std.proofs.Common.{◌≡◌, ◌≤◌, not, unwrap_or, length, drop}
use Rattle.rdf_types.specs.declared.records.RecKey.{RecKey}
use Rattle.rdf_model.specs.Contents.{held}
use Rattle.rdf_model.specs.Settled.{has}
use Rattle.rdf_model.specs.Trail.{first_before}
use Rattle.rdf_model.proofs.settled.set_all_back.Given as goal

abbrev pub invariant-loop-left : goal.invariant-loop-left
invariant-loop-left l = record {
  within : l.left ≤ length l.trail;
  back : (q : RecKey) → held l.files q ≡ unwrap_or (first_before (λ t. not (has l.fn.ended t)) q (drop l.left l.trail)) (held l.fn.files q);
}

abbrev pub decreases-loop-left : goal.decreases-loop-left
decreases-loop-left l = l.left
