use Rattle.rdf_core.proofs.ProperSteps.{after_proper}
use Rattle.rdf_core.proofs.laws.line_keeps_proper.Goals as goal

pub returns : goal.returns
returns c = after_proper (record {
  begin_runs = c.begin_runs.ensures;
  change_runs = c.change_runs.ensures;
  commit_runs = c.commit_runs.ensures;
  abort_runs = c.abort_runs.ensures;
  restart_runs = c.restart_runs.ensures;
})
