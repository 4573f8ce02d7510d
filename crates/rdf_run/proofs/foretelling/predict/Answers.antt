use Rattle.std.proofs.Common.{List, sym, subst}
use Rattle.std.specs.List.{AllPass}
use Rattle.plan_lang.specs.declared.lines.Line.{Line}
use Rattle.rdf_core.specs.Allowed.{has_names}
use Rattle.rdf_run.proofs.ForetoldLoop.{none_written}
use Rattle.rdf_core.specs.AllowedLaws.{plan_named}
use Rattle.rdf_run.proofs.foretelling.predict.Goals as goal

pub returns-in_err-machine-clause-memory : goal.returns-in_err-machine-clause-memory
returns-in_err-machine-clause-memory g c = λ t e. none_written c.args.plan.now.layout c.args.plan.now.lines (g.K.Sink.written c.args.out.now)

pub predict_lines-requires-clause-names : goal.predict_lines-requires-clause-names
predict_lines-requires-clause-names g c = subst (λ (lines : List Line). AllPass (has_names c.args.plan.now.layout) lines) (sym c.all.ensures) (plan_named c.args.plan.now c.requires)
