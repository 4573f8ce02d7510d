use Rattle.rdf_core.proofs.Lifts.{restart_done, restart_refused, restart_cut}
use Rattle.rdf_core.proofs.laws.restart_lifts.Goals as goal

pub returns : goal.returns
returns c = record {
  done = λ layout s reply may e d. (may, restart_done layout s reply e d);
  refused = λ layout s why may e. (may, restart_refused layout s why e);
  cut = λ layout s done reply new may off. (may, restart_cut layout s done reply new off);
}
