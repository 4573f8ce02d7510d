use Rattle.quiet_runs.proofs.Answering.{each_answered}
use Rattle.quiet_runs.proofs.each_line_is_answered.Goals as goal

pub returns : goal.returns
returns c = each_answered c.loss_lasts.ensures.lose
