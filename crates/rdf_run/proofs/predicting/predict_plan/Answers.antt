use Rattle.std.proofs.Common.{inl, inr, ℕ, false, List, length, ap, ◌∙◌, subst, arith}
use Rattle.plan_lang.specs.Grammar.{Reads}
use Rattle.rdf_run.proofs.predicting.predict_plan.Goals as goal

pub returns-in-Ok-clause-predicts : goal.returns-in-Ok-clause-predicts
returns-in-Ok-clause-predicts g c = λ begun.
    let ok = c.in-Ok.ensures.ok in
    elim (c.predict_bytes.ensures.predicts begun) [
      | inl h ↦ inl (
        h.plan,
        record {
          took = record {
            is = h.is;
            few = λ t. let within = c.in-Ok.ensures.within in omega (arith, within, ap length (ok t).0);
            reads = λ t. subst (λ (b : List ℕ). Reads false b h.plan) (c.deref.ensures.value ∙ (ok t).0) h.reads;
            all = λ t. (ok t).1;
          };
          ends = h.ends;
        },
      )
      | inr n ↦ inr n
    ]
