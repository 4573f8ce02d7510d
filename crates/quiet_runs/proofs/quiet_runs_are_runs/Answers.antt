use Rattle.quiet_runs.proofs.Runs.{quiet_run, quiet_runs}
use Rattle.quiet_runs.proofs.quiet_runs_are_runs.Goals as goal

pub returns : goal.returns
returns c = record { run = quiet_run; from = quiet_runs }
