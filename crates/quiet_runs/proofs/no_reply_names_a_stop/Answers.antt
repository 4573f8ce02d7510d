use Rattle.quiet_runs.proofs.Stops.{no_reply_names}
use Rattle.quiet_runs.proofs.no_reply_names_a_stop.Goals as goal

pub returns : goal.returns
returns c = no_reply_names
