use Rattle.std.proofs.Common.{inl}
use Rattle.rdf_run.proofs.predicting.predict_bytes.Goals as goal

pub returns-in-Ok-clause-predicts : goal.returns-in-Ok-clause-predicts
returns-in-Ok-clause-predicts g c = λ begun. inl (record {
  plan = c.in-Ok.plan;
  is = c.in-Ok.ensures.found.0;
  reads = c.in-Ok.ensures.found.1;
  ends = c.predict_lines.ensures.predicts;
})
