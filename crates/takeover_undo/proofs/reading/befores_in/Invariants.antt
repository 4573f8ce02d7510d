use Rattle.std.proofs.Common.{◌≡◌, not, drop, None}
use Rattle.std.specs.FinMap.{get}
use Rattle.rdf_types.specs.declared.records.RecKey.{RecKey}
use Rattle.rdf_model.specs.Trail.{first_before}
use Rattle.rdf_model.specs.Window.{records}
use Rattle.rdf_model.specs.Settled.{has}
use Rattle.takeover_undo.specs.Undo.{lent}
use Rattle.takeover_undo.specs.Firsts.{or_first}
use Rattle.takeover_undo.proofs.reading.befores_in.Given as goal

abbrev pub invariant-loop-entry : goal.invariant-loop-entry
invariant-loop-entry l = record {
  here : (q : RecKey) → q.vol ≡ l.vol → or_first (get l.befores q) (first_before (λ t. not (has l.ended t)) q (records (lent (drop l.entry-index l.part)))) ≡ first_before (λ t. not (has l.ended t)) q (records (lent l.part));
  elsewhere : (q : RecKey) → (q.vol ≡ l.vol → ⊥) → get l.befores q ≡ None;
}
