use Rattle.quiet_runs.proofs.Runs.{run_quiet, runs_quiet}
use Rattle.quiet_runs.proofs.unstopped_runs_are_quiet.Goals as goal

pub returns : goal.returns
returns c = record { run = run_quiet; from = runs_quiet }
